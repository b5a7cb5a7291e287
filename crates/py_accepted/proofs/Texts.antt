-- Short texts read: their tokens, their signs, their lines, and the cells as which they are accepted.
use Rattle.std.proofs.Common.{◌≡◌, ◌<◌, ℕ, List, [], ◌∷◌, ◌++◌, Option, Some, None, Result, Ok, Err, refl, sym, ap, ◌∙◌, lit<}
use Rattle.std.specs.List.{All, flat_map}
use Rattle.std.specs.Prelude.{codes, pos}
use Rattle.std.proofs.lemmas.List.Elements.{All-cons, All-nil}
use Rattle.unicode_ident.specs.Ident.{is_xid_start, is_xid_continue}
use Rattle.unicode_ident.proofs.Computing.{unicode_ident}
use Rattle.unicode_normalization.specs.Forms.{nfkc}
use Rattle.flow_base.specs.declared.kinds.SyntaxKind.TheVariants.{Syntax}
use Rattle.py_ast.specs.Statement as s
use Rattle.py_ast.specs.Statement.{Block}
use Rattle.py_ast.specs.Tree.{Tree, name, number, none, more}
use Rattle.py_ast.specs.declared.expr.Expr.{Expr, roll-Expr}
use Rattle.py_ast.specs.declared.expr.Expr.TheOpen as e
use Rattle.py_ast.specs.declared.expr.Expr.TheFolds.{fold-roll-Expr}
use Rattle.py_ast.specs.declared.stmt.Stmt.{Stmt, roll-Stmt}
use Rattle.py_ast.specs.declared.stmt.Stmt.TheOpen as o
use Rattle.py_ast.specs.declared.stmt.Stmt.TheFolds.{fold-roll-Stmt, para-roll-Stmt}
use Rattle.py_lexer.specs.declared.token.Token.{Token}
use Rattle.py_lexer.specs.declared.token.TokenKind.{TokenKind}
use Rattle.py_lexer.specs.declared.token.TokenKind.TheVariants.{Word, Number as NumberToken, Op}
use Rattle.py_grammar.specs.Line.{Line, simples}
use Rattle.py_grammar.specs.Reading.{exprs, items, items_turn, row, expr, condition, negated, comparison, chain, chain_turn, grouped_over}
use Rattle.py_grammar.specs.Reading.{grouped_turn, factor, power, primary, suffix, atom, marked_atom, loop, nested}
use Rattle.py_grammar.specs.LineReading.{read_line, simple_line, simples as read_simples, simple, unmarked, augment, assigned_turn}
use Rattle.py_grammar.specs.declared.mark.Mark.TheVariants as m
use Rattle.py_grammar.specs.declared.sign.Sign.{Sign}
use Rattle.py_grammar.specs.declared.sign.Sign.TheVariants.{Name, Number, Mark as The}
use Rattle.py_signs.specs.Signs.{signs_of, keyword_of, name_sign, operator_of}
use Rattle.py_signs.proofs.SignLaws.{ascii_sign}
use Rattle.py_scope.specs.Chart as chart
use Rattle.py_scope.specs.Chart.{Spot, Spots, expr_step, faults_at, first_fault, plain, spots_of_expr, spots_of_stmt}
use Rattle.py_scope.specs.Faults.{faults_of, least}
use Rattle.py_scope.specs.Marks as marks
use Rattle.py_scope.specs.Marks.{marks_of_stmt, marks_of_target, target_step}
use Rattle.py_scope.specs.declared.mark.Mark.{Mark}
use Rattle.py_scope.specs.declared.mark.Mark.TheVariants.{Binds}
use Rattle.py_scope.specs.declared.scope.Kind.TheVariants.{Cell}
use Rattle.py_block.specs.Lexing.{lexed, laid}
use Rattle.py_block.specs.Parsed.{Fault, form_read, of_lines, of_tokens, parsed}
use Rattle.py_accepted.specs.Accepted.{cell_of, with_scopes, without_fault}
use Rattle.py_accepted.specs.Examples.{x_is_1, y_is_x, z_is_y}

abbrev token : TokenKind → ℕ → ℕ → Token
token k start end = record { kind = k; start = start; end = end; line = 1 }

-- what is answered to a text of one line that is read so
abbrev answered : Option (Option Line) → Result Block Fault
answered read = of_lines ((record { number = 1; deep = 0; form = form_read read }) ∷ [])

-- a line that gives a value to a name
abbrev assigning : List ℕ → Tree → Option (Option Line)
assigning x value = Some (Some (simples (s.assign (more (name x) none) value ∷ [])))

-- ---- one statement `NAME = E`, where E is a name or a number, has no scope fault

name_spots : (i : ℕ) (x : List ℕ) → spots_of_expr (roll-Expr (e.Name i x)) ≡ expr_step (e.Name i x)
name_spots i x = fold-roll-Expr Spots expr_step (e.Name i x)

name_marks : (i : ℕ) (x : List ℕ) → marks_of_target (roll-Expr (e.Name i x)) ≡ Binds x ∷ []
name_marks i x = fold-roll-Expr (List Mark) target_step (e.Name i x)

-- a statement that gives a value to a name
abbrev assigned : List ℕ → Expr → Stmt
assigned x value = roll-Stmt (o.Assign 1 (roll-Expr (e.Name 2 x) ∷ []) value)

assigned_marks : (x : List ℕ) (value : Expr) → marks_of_stmt (assigned x value) ≡ Binds x ∷ []
assigned_marks x value =
    fold-roll-Stmt (List Mark) (List Mark) (List Mark) marks.stmt_step marks.branch_step marks.handler_step (o.Assign 1 (roll-Expr (e.Name 2 x) ∷ []) value)
    ∙ ap (λ (ms : List Mark). ms ++ []) (name_marks 2 x)

assigned_spots : (x : List ℕ) (value : Expr) → spots_of_expr value [] ≡ plain [] ∷ [] → spots_of_stmt (assigned x value) [] ≡ plain [] ∷ plain [] ∷ plain [] ∷ []
assigned_spots x value is =
    ap (λ (spots : Spots). spots [])
    (para-roll-Stmt Spots Spots Spots chart.stmt_step chart.branch_step chart.handler_step (o.Assign 1 (roll-Expr (e.Name 2 x) ∷ []) value))
    ∙ ap (λ (spots : Spots). plain [] ∷ ((spots [] ++ []) ++ spots_of_expr value [])) (name_spots 2 x)
    ∙ ap (λ (spots : List Spot). plain [] ∷ plain [] ∷ spots) is

no_fault : (x : List ℕ) (value : Expr) → spots_of_expr value [] ≡ plain [] ∷ [] → first_fault (record { statements = assigned x value ∷ [] }) ≡ None
no_fault x value is =
    ap (λ (ms : List Mark). least (faults_of [] (record { kind = Cell; params = []; marks = ms ++ [] })
    ++ flat_map faults_at (spots_of_stmt (assigned x value) [] ++ []))) (assigned_marks x value)
    ∙ ap (λ (spots : List Spot). least (flat_map faults_at (spots ++ []))) (assigned_spots x value is)

no_fault_of_name : (x y : List ℕ) → first_fault (record { statements = assigned x (roll-Expr (e.Name 3 y)) ∷ [] }) ≡ None
no_fault_of_name x y = no_fault x (roll-Expr (e.Name 3 y)) (ap (λ (spots : Spots). spots []) (name_spots 3 y))

ascii : (c : ℕ) → c < 128 → All (λ c. c < 128) (c ∷ [])
ascii c l = All-cons (λ c. c < 128) c [] l (All-nil (λ c. c < 128))

-- ---- x = 1

abbrev tokens_1 : List Token
tokens_1 = token Word 0 1 ∷ token Op 2 3 ∷ token NumberToken 4 5 ∷ []

abbrev signs_1 : List Sign
signs_1 = Name (codes "x") ∷ The m.Equals ∷ Number (pos 1) ∷ []

lexed_1 : lexed (codes "x = 1") ≡ Ok tokens_1
unfolding lexed is_xid_start is_xid_continue unicode_ident
lexed_1 = refl

signed_1 : signs_of (codes "x = 1") tokens_1 ≡ signs_1
unfolding keyword_of operator_of
signed_1 = ap (λ (z : Sign). z ∷ The m.Equals ∷ Number (pos 1) ∷ []) (sym (ascii_sign (codes "x") (ascii 120 (lit< tt)) refl))

read_1 : read_line 60 signs_1 ≡ assigning (codes "x") (number (pos 1))
unfolding read_line simple_line read_simples simple unmarked augment assigned_turn exprs items items_turn row expr condition negated comparison
    chain chain_turn grouped_over grouped_turn factor power primary suffix atom marked_atom loop nested
read_1 = refl

parsed_1 : parsed (codes "x = 1") ≡ Ok x_is_1
unfolding parsed laid
parsed_1 =
    ap (of_tokens (codes "x = 1")) lexed_1
    ∙ ap (λ (signs : List Sign). answered (read_line 60 signs)) signed_1
    ∙ ap answered read_1

pub accepted_1 : cell_of (codes "x = 1") ≡ Ok x_is_1
unfolding cell_of
accepted_1 = ap (with_scopes (codes "x = 1")) parsed_1
    ∙ ap (without_fault (codes "x = 1") x_is_1)
    (no_fault (codes "x") (roll-Expr (e.Number 3 (pos 1))) (ap (λ (spots : Spots). spots []) (fold-roll-Expr Spots expr_step (e.Number 3 (pos 1)))))

-- ---- y = x

abbrev tokens_2 : List Token
tokens_2 = token Word 0 1 ∷ token Op 2 3 ∷ token Word 4 5 ∷ []

abbrev signs_2 : List Sign
signs_2 = Name (codes "y") ∷ The m.Equals ∷ Name (codes "x") ∷ []

lexed_2 : lexed (codes "y = x") ≡ Ok tokens_2
unfolding lexed is_xid_start is_xid_continue unicode_ident
lexed_2 = refl

signed_2 : signs_of (codes "y = x") tokens_2 ≡ signs_2
unfolding keyword_of operator_of
signed_2 =
    ap (λ (z : Sign). z ∷ The m.Equals ∷ name_sign (nfkc (codes "x")) ∷ []) (sym (ascii_sign (codes "y") (ascii 121 (lit< tt)) refl))
    ∙ ap (λ (z : Sign). Name (codes "y") ∷ The m.Equals ∷ z ∷ []) (sym (ascii_sign (codes "x") (ascii 120 (lit< tt)) refl))

read_2 : read_line 60 signs_2 ≡ assigning (codes "y") (name (codes "x"))
unfolding read_line simple_line read_simples simple unmarked augment assigned_turn exprs items items_turn row expr condition negated comparison
    chain chain_turn grouped_over grouped_turn factor power primary suffix atom marked_atom loop nested
read_2 = refl

parsed_2 : parsed (codes "y = x") ≡ Ok y_is_x
unfolding parsed laid
parsed_2 =
    ap (of_tokens (codes "y = x")) lexed_2
    ∙ ap (λ (signs : List Sign). answered (read_line 60 signs)) signed_2
    ∙ ap answered read_2

pub accepted_2 : cell_of (codes "y = x") ≡ Ok y_is_x
unfolding cell_of
accepted_2 = ap (with_scopes (codes "y = x")) parsed_2
    ∙ ap (without_fault (codes "y = x") y_is_x) (no_fault_of_name (codes "y") (codes "x"))

-- ---- z = y

abbrev tokens_3 : List Token
tokens_3 = token Word 0 1 ∷ token Op 2 3 ∷ token Word 4 5 ∷ []

abbrev signs_3 : List Sign
signs_3 = Name (codes "z") ∷ The m.Equals ∷ Name (codes "y") ∷ []

lexed_3 : lexed (codes "z = y") ≡ Ok tokens_3
unfolding lexed is_xid_start is_xid_continue unicode_ident
lexed_3 = refl

signed_3 : signs_of (codes "z = y") tokens_3 ≡ signs_3
unfolding keyword_of operator_of
signed_3 =
    ap (λ (z : Sign). z ∷ The m.Equals ∷ name_sign (nfkc (codes "y")) ∷ []) (sym (ascii_sign (codes "z") (ascii 122 (lit< tt)) refl))
    ∙ ap (λ (z : Sign). Name (codes "z") ∷ The m.Equals ∷ z ∷ []) (sym (ascii_sign (codes "y") (ascii 121 (lit< tt)) refl))

read_3 : read_line 60 signs_3 ≡ assigning (codes "z") (name (codes "y"))
unfolding read_line simple_line read_simples simple unmarked augment assigned_turn exprs items items_turn row expr condition negated comparison
    chain chain_turn grouped_over grouped_turn factor power primary suffix atom marked_atom loop nested
read_3 = refl

parsed_3 : parsed (codes "z = y") ≡ Ok z_is_y
unfolding parsed laid
parsed_3 =
    ap (of_tokens (codes "z = y")) lexed_3
    ∙ ap (λ (signs : List Sign). answered (read_line 60 signs)) signed_3
    ∙ ap answered read_3

pub accepted_3 : cell_of (codes "z = y") ≡ Ok z_is_y
unfolding cell_of
accepted_3 = ap (with_scopes (codes "z = y")) parsed_3
    ∙ ap (without_fault (codes "z = y") z_is_y) (no_fault_of_name (codes "z") (codes "y"))

-- ---- t = = 2

abbrev tokens_4 : List Token
tokens_4 = token Word 0 1 ∷ token Op 2 3 ∷ token Op 4 5 ∷ token NumberToken 6 7 ∷ []

abbrev signs_4 : List Sign
signs_4 = Name (codes "t") ∷ The m.Equals ∷ The m.Equals ∷ Number (pos 2) ∷ []

lexed_4 : lexed (codes "t = = 2") ≡ Ok tokens_4
unfolding lexed is_xid_start is_xid_continue unicode_ident
lexed_4 = refl

signed_4 : signs_of (codes "t = = 2") tokens_4 ≡ signs_4
unfolding keyword_of operator_of
signed_4 = ap (λ (z : Sign). z ∷ The m.Equals ∷ The m.Equals ∷ Number (pos 2) ∷ []) (sym (ascii_sign (codes "t") (ascii 116 (lit< tt)) refl))

read_4 : read_line 60 signs_4 ≡ None
unfolding read_line simple_line read_simples simple unmarked augment assigned_turn exprs items items_turn row expr condition negated comparison
    chain chain_turn grouped_over grouped_turn factor power primary suffix atom marked_atom loop nested
read_4 = refl

parsed_4 : parsed (codes "t = = 2") ≡ Err (1, Syntax)
unfolding parsed laid
parsed_4 =
    ap (of_tokens (codes "t = = 2")) lexed_4
    ∙ ap (λ (signs : List Sign). answered (read_line 60 signs)) signed_4
    ∙ ap answered read_4

pub accepted_4 : cell_of (codes "t = = 2") ≡ Err (1, Syntax)
unfolding cell_of
accepted_4 = ap (with_scopes (codes "t = = 2")) parsed_4
