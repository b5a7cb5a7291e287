pub mod UnderLaws
