pub mod Cutting
pub mod Fronts
pub mod Lists
pub mod Numbers
pub mod Quotes
pub mod Signs
pub mod Spans
pub mod Words
