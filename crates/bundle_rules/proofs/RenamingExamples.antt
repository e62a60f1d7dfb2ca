-- Which names keep their symbols.
use Rattle.std.specs.Prelude.{◌≡◌, ℕ, Bool as Truth, true, false, cond, List, [], ◌∷◌, ◌++◌, Some, codes}
use mathlib.Core.Path.{refl}
use Rattle.std.specs.Fmt.{digits}
use Rattle.bundle_syntax.specs.declared.kind.VarDeclKind.TheVariants as v
use Rattle.bundle_syntax.specs.Item.{Item}
use Rattle.bundle_rules.specs.Declarations.{contexts_agree}
use Rattle.bundle_rules.specs.Homes.{is_parameters}
use Rattle.bundle_rules.specs.Places.{occurrences}
use Rattle.bundle_rules.specs.Keywords.{is_keyword, keyword_free_symbols, has_right_context}
use Rattle.bundle_rules.specs.Renaming.{Numbering, is_numbering, symbols_after}
use Rattle.bundle_rules.proofs.SmallTrees.{reads, declares_in, block_of, parameter, declares_function}

-- each binding keeps its symbol
abbrev keeps_all : Numbering
keeps_all scope name = 0

-- parameters have a number, and all else keeps its symbol
abbrev parameters_with : ℕ → Numbering
parameters_with n scope name = cond (is_parameters scope) n 0

-- `const x; function f(x) { x; x; }`, where the last `x` is the module's
abbrev hiding : List Item
hiding = declares_in 0 v.Const (codes "x") 2 ++ declares_function (codes "f") 2 (parameter (codes "x") 5) (reads (codes "x") 5 ++ reads (codes "x") 2)

-- the parameter would hide the constant that its function reads, so it is `x1`
renamed_parameter : is_numbering hiding (parameters_with 1) ≡ true
unfolding digits
renamed_parameter = refl

symbols_of_the_parameter : symbols_after hiding (parameters_with 1) ≡ codes "x" ∷ codes "f" ∷ codes "x1" ∷ codes "x1" ∷ codes "x" ∷ []
unfolding digits
symbols_of_the_parameter = refl

-- to keep it is wrong, and so is a number that is not the least
parameter_is_not_kept : is_numbering hiding keeps_all ≡ false
unfolding digits
parameter_is_not_kept = refl

parameter_is_not_x2 : is_numbering hiding (parameters_with 2) ≡ false
unfolding digits
parameter_is_not_x2 = refl

-- `const x; function f(x) { x; }`, where `x` is the parameter
abbrev not_hiding : List Item
not_hiding = declares_in 0 v.Const (codes "x") 2 ++ declares_function (codes "f") 2 (parameter (codes "x") 5) (reads (codes "x") 5)

-- no name is changed without need
parameter_is_kept : is_numbering not_hiding keeps_all ≡ true
unfolding digits
parameter_is_kept = refl

no_needless_renaming : is_numbering not_hiding (parameters_with 1) ≡ false
unfolding digits
no_needless_renaming = refl

-- the names with a context have a number, and all else keeps its symbol
abbrev context_with : ℕ → ℕ → Numbering
context_with ctxt n scope name = cond (contexts_agree name.ctxt (Some ctxt)) n 0

-- `const x; const x;` of two modules
abbrev two_modules : List Item
two_modules = declares_in 0 v.Const (codes "x") 2 ++ declares_in 0 v.Const (codes "x") 4

-- the first keeps its symbol, and the second is `x1`
second_is_renamed : is_numbering two_modules (context_with 4 1) ≡ true
unfolding digits
second_is_renamed = refl

first_is_not_renamed : is_numbering two_modules (context_with 2 1) ≡ false
unfolding digits
first_is_not_renamed = refl

-- with a global `x1` the second is `x2`
second_is_x2 : is_numbering (two_modules ++ reads (codes "x1") 1) (context_with 4 2) ≡ true
unfolding digits
second_is_x2 = refl

-- `const console; console;`, where the last is a global
global_keeps_its_symbol : symbols_after (declares_in 0 v.Const (codes "console") 2 ++ reads (codes "console") 1) (context_with 2 1) ≡ codes "console1" ∷ codes "console" ∷ []
unfolding digits
global_keeps_its_symbol = refl

console_is_renamed : is_numbering (declares_in 0 v.Const (codes "console") 2 ++ reads (codes "console") 1) (context_with 2 1) ≡ true
unfolding digits
console_is_renamed = refl

-- `{ let a; { var a; } }` with two contexts
abbrev passing : List Item
passing = block_of 0 (declares_in 0 v.Let (codes "a") 5 ++ block_of 0 (declares_in 0 v.Var (codes "a") 2))

-- the `var` passes the block, whose name therefore changes
passed_block_is_renamed : is_numbering passing (context_with 5 1) ≡ true
unfolding digits
passed_block_is_renamed = refl

passed_block_is_not_kept : is_numbering passing keeps_all ≡ false
unfolding digits
passed_block_is_not_kept = refl

-- `function f(arguments) {}`: no declared `arguments` keeps its symbol
declared_arguments : is_numbering (declares_function (codes "f") 2 (parameter (codes "arguments") 5) []) (parameters_with 1) ≡ true
unfolding digits
declared_arguments = refl

-- `function f() { arguments; }`: the implicit one keeps it
implicit_arguments : symbols_after (declares_function (codes "f") 2 [] (reads (codes "arguments") 5)) (parameters_with 1) ≡ codes "f" ∷ codes "arguments" ∷ []
unfolding digits
implicit_arguments = refl

-- `{ let __int; { var int; } } int;`, where the last is a global
free_of_keywords : keyword_free_symbols (block_of 0 (declares_in 0 v.Let (codes "__int") 5 ++ block_of 0 (declares_in 0 v.Var (codes "int") 2)) ++ reads (codes "int") 1) ≡ codes "__int" ∷ codes "__int" ∷ codes "int" ∷ []
free_of_keywords = refl

int_is_a_keyword : is_keyword (codes "int") ≡ true
int_is_a_keyword = refl

import_is_left_alone : is_keyword (codes "import") ≡ false
import_is_left_alone = refl

abbrev zip_with : {A B C : Type 0} → (A → B → C) → List A → List B → List C
zip_with f [] ys = []
zip_with f (x ∷ xs) [] = []
zip_with f (x ∷ xs) (y ∷ ys) = f x y ∷ zip_with f xs ys

-- how contexts go on: those of `before` beside those of `after`, one by one
abbrev right_contexts : List Item → List Item → List Truth
right_contexts before after = zip_with (has_right_context (occurrences before)) (occurrences before) (occurrences after)

abbrev constants : List ℕ → ℕ → List ℕ → ℕ → List Item
constants first its second others = declares_in 0 v.Const first its ++ declares_in 0 v.Const second others

-- `const int;` keeps its context, also the last one that there is
context_is_kept : right_contexts (declares_in 0 v.Const (codes "int") 4294967295) (declares_in 0 v.Const (codes "__int") 4294967295) ≡ true ∷ []
context_is_kept = refl

-- another one is wrong there
context_changes_needlessly : right_contexts (declares_in 0 v.Const (codes "int") 2) (declares_in 0 v.Const (codes "__int") 3) ≡ false ∷ []
context_changes_needlessly = refl

-- `const int, __int;` with one context: the first gets a context that nothing has, and the second keeps its own
context_is_new : right_contexts (constants (codes "int") 2 (codes "__int") 2) (constants (codes "__int") 3 (codes "__int") 2) ≡ true ∷ true ∷ []
context_is_new = refl

-- both with one context would be one binding, and the second has no reason to change
context_is_not_new : right_contexts (constants (codes "int") 2 (codes "__int") 2) (constants (codes "__int") 2 (codes "__int") 3) ≡ false ∷ false ∷ []
context_is_not_new = refl
