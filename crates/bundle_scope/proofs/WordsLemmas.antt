-- Trees that are the same, the contexts of plain words aside, and trees whose plain words have the context 0.
use Rattle.std.proofs.Common.{◌≡◌, ◌<◌, ℕ, zero, suc, List, [], ◌∷◌, ◌++◌, Some, length, slice_get, get_or, set, refl, ap, ap₂, sym, ◌∙◌, subst, arith}
use Rattle.std.specs.List.{flat_map}
use Rattle.std.proofs.lemmas.Bool.{false≢true}
use Rattle.std.proofs.lemmas.Option.{none-some, same_Some}
use Rattle.bundle_tree_ast.specs.declared.module.DefaultDecl.{DefaultDecl}
use Rattle.bundle_tree_ast.specs.declared.stmt.Stmt.{Stmt}
use Rattle.bundle_tree_ast.specs.declared.decl.Decl.{Decl}
use Rattle.bundle_tree_ast.specs.declared.expr.Expr.{Expr}
use Rattle.bundle_syntax.specs.declared.piece.Role.TheVariants as r
use Rattle.bundle_syntax.specs.Item as h
use Rattle.bundle_syntax.specs.Item.{Item, Head}
use Rattle.bundle_tree_listed.specs.Tree.{node, stmt_items, decl_items, expr_items, default_decl_items}
use Rattle.bundle_rules.specs.Cleared.{cleared_head, without_notes, tidied}
use Rattle.bundle_scope_names.specs.fit.Words.{HasNoWords}
use Rattle.bundle_scope_names.proofs.grown.Trees.{stmt_wordless, decl_wordless, expr_wordless, default_wordless}
use Rattle.bundle_scope.specs.Named.{word_aside, words_aside, AreWordsClear}

words-append : (xs ys : List Item) → words_aside (xs ++ ys) ≡ words_aside xs ++ words_aside ys
words-append [] ys = refl
words-append (x ∷ xs) ys = ap (λ (zs : List Item). word_aside x ∷ zs) (words-append xs ys)

-- one after the other
pub words_joined : (first first_too second second_too : List Item) → words_aside first ≡ words_aside first_too → words_aside second ≡ words_aside second_too → words_aside (first ++ second) ≡ words_aside (first_too ++ second_too)
words_joined first first_too second second_too one two =
    words-append first second ∙ ap₂ (λ (xs ys : List Item). xs ++ ys) one two ∙ sym (words-append first_too second_too)

-- in a node
pub words_inside : (field : ℕ) (head : Head) (inside inside_too : List Item) → words_aside inside ≡ words_aside inside_too → words_aside (node field head inside) ≡ words_aside (node field head inside_too)
words_inside field head inside inside_too same = ap (λ (rest : List Item). h.Open field head ∷ rest) (words_joined inside inside_too (h.Close ∷ []) (h.Close ∷ []) same refl)

-- one of them is another
pub words_set : {A : Type 0} (f : A → List Item) (xs : List A) (k : ℕ) (x default : A) → words_aside (f x) ≡ words_aside (f (get_or xs k default)) → words_aside (flat_map f (set xs k x)) ≡ words_aside (flat_map f xs)
words_set f [] k x default same = refl
words_set f (y ∷ ys) zero x default same = words_joined (f x) (f y) (flat_map f ys) (flat_map f ys) same refl
words_set f (y ∷ ys) (suc k) x default same = words_joined (f y) (f y) (flat_map f (set ys k x)) (flat_map f ys) refl (words_set f ys k x default same)

-- Trees whose plain words have the context 0.

-- one after the other
pub clear_joined : (first second : List Item) → AreWordsClear first → AreWordsClear second → AreWordsClear (first ++ second)
clear_joined first second one two = words-append first second ∙ ap₂ (λ (xs ys : List Item). xs ++ ys) one two

-- in a node
pub clear_inside : (field : ℕ) (head : Head) (inside : List Item) → AreWordsClear inside → AreWordsClear (node field head inside)
clear_inside field head inside clear = ap (λ (rest : List Item). h.Open field head ∷ rest) (clear_joined inside (h.Close ∷ []) clear refl)

-- where there is none
clear_none : (items : List Item) → HasNoWords items → AreWordsClear items
clear_none [] none = refl
clear_none (h.Open field head ∷ items) none = ap (λ (rest : List Item). h.Open field head ∷ rest) (clear_none items none)
clear_none (h.Ident field x ctxt r.Word ∷ items) none = absurd (false≢true none.0)
clear_none (h.Ident field x ctxt r.Binding ∷ items) none = ap (λ (rest : List Item). h.Ident field x ctxt r.Binding ∷ rest) (clear_none items none.1)
clear_none (h.Ident field x ctxt r.Reference ∷ items) none = ap (λ (rest : List Item). h.Ident field x ctxt r.Reference ∷ rest) (clear_none items none.1)
clear_none (h.Hole field ∷ items) none = ap (λ (rest : List Item). h.Hole field ∷ rest) (clear_none items none)
clear_none (h.Close ∷ items) none = ap (λ (rest : List Item). h.Close ∷ rest) (clear_none items none)

pub stmt_clear : (field : ℕ) (it : Stmt) → AreWordsClear (stmt_items field it)
stmt_clear field it = clear_none (stmt_items field it) (stmt_wordless field it)

pub decl_clear : (field : ℕ) (it : Decl) → AreWordsClear (decl_items field it)
decl_clear field it = clear_none (decl_items field it) (decl_wordless field it)

pub expr_clear : (field : ℕ) (it : Expr) → AreWordsClear (expr_items field it)
expr_clear field it = clear_none (expr_items field it) (expr_wordless field it)

pub default_clear : (field : ℕ) (it : DefaultDecl) → AreWordsClear (default_decl_items field it)
default_clear field it = clear_none (default_decl_items field it) (default_wordless field it)

-- those before a place
abbrev pub AreClearTo : {A : Type 0} → (A → List Item) → ℕ → List A → Type 0
AreClearTo {A} f place xs = (i : ℕ) (x : A) → i < place → slice_get xs i ≡ Some x → AreWordsClear (f x)

-- and one more
pub clear_set : {A : Type 0} (f : A → List Item) (xs : List A) (k : ℕ) (x : A) → AreClearTo f k xs → AreWordsClear (f x) → AreClearTo f (suc k) (set xs k x)
clear_set f [] k x before one i z less at = absurd (none-some z at)
clear_set f (y ∷ ys) zero x before one zero z less at = subst (λ w. AreWordsClear (f w)) (same_Some x z at) one
clear_set f (y ∷ ys) zero x before one (suc i) z less at = absurd (omega (arith, less))
clear_set f (y ∷ ys) (suc k) x before one zero z less at = before zero z (omega arith) at
clear_set f (y ∷ ys) (suc k) x before one (suc i) z less at = let lower : i < suc k = omega (arith, less) in clear_set f ys k x (λ j w under there. let upper : suc j < suc k = omega (arith, under) in before (suc j) w upper there) one i z lower at

-- all of them
pub clear_all : {A : Type 0} (f : A → List Item) (xs : List A) → AreClearTo f (length xs) xs → AreWordsClear (flat_map f xs)
clear_all f [] each = refl
clear_all f (x ∷ xs) each = clear_joined (f x) (flat_map f xs) (each zero x (omega arith) refl) (clear_all f xs (λ i z less at. let upper : suc i < length (x ∷ xs) = omega (arith, less) in each (suc i) z upper at))

-- without notes, such a tree is tidy
pub unnoted-aside : (items : List Item) → without_notes (words_aside items) ≡ tidied items
unnoted-aside [] = refl
unnoted-aside (h.Open field head ∷ items) = ap (λ (rest : List Item). h.Open field (cleared_head head) ∷ rest) (unnoted-aside items)
unnoted-aside (h.Ident field x ctxt r.Word ∷ items) = ap (λ (rest : List Item). h.Ident field x 0 r.Word ∷ rest) (unnoted-aside items)
unnoted-aside (h.Ident field x ctxt r.Binding ∷ items) = ap (λ (rest : List Item). h.Ident field x ctxt r.Binding ∷ rest) (unnoted-aside items)
unnoted-aside (h.Ident field x ctxt r.Reference ∷ items) = ap (λ (rest : List Item). h.Ident field x ctxt r.Reference ∷ rest) (unnoted-aside items)
unnoted-aside (h.Hole field ∷ items) = ap (λ (rest : List Item). h.Hole field ∷ rest) (unnoted-aside items)
unnoted-aside (h.Close ∷ items) = ap (λ (rest : List Item). h.Close ∷ rest) (unnoted-aside items)
