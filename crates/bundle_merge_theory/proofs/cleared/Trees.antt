-- What is read of trees that are the same once they are cleared, where contexts and notes are not
-- read.
use Rattle.std.proofs.Common.{◌≡◌, ℕ, suc, ◌+◌, List, [], ◌∷◌, ◌++◌, length, map, refl, sym, ap, ◌∙◌, subst}
use Rattle.std.specs.Prelude.{flat_map}
use Rattle.std.specs.List.{AllZip}
use Rattle.bundle_syntax.specs.declared.kind.VarDeclKind.TheVariants.{Const}
use Rattle.bundle_syntax.specs.Item as h
use Rattle.bundle_syntax.specs.Item.{Head, Item}
use Rattle.bundle_rules.specs.Cleared.{cleared, cleared_head, cleared_item}
use Rattle.bundle_rules.specs.Nodes.{parts, without_last}
use Rattle.bundle_rules.specs.Statements.{Element, TopItem, taken, written, placed, taken_from, taken_in_field, default_constant, default_declaration, default_binding, declaration_head, no_notes, moved_to, with_name, stated, stated_by, own_statements}
use Rattle.bundle_rules.proofs.HeadLemmas.{of_head}
use Rattle.bundle_rules.proofs.NodeLemmas.{parts-cleared}
use Rattle.bundle_merge_theory.proofs.grouped.ClearedLemmas.{length-cleared}
use Rattle.bundle_merge_theory.proofs.grouped.EditLemmas.{zip-append}
use Rattle.bundle_merge_theory.specs.cleared.Elements.{SameItem, begins, named, empty, ended, SameElement, of_tree, in_addition, SameElements}
use Rattle.bundle_scope_names.proofs.naming_rule.Theorem.{head-twice}

-- ---- what is the same of a tree and of the cleared one is the same of both trees
pub alike : {A : Type 0} (tell : List Item → A) →
    ((tree : List Item) → tell (cleared tree) ≡ tell tree) → (t u : List Item) →
    cleared t ≡ cleared u → tell t ≡ tell u
alike tell its t u same = sym (its t) ∙ (ap tell same ∙ its u)

-- ---- items and elements
turned-item : {x y : Item} → SameItem x y → SameItem y x
turned-item (begins same) = begins (sym same)
turned-item named = named
turned-item empty = empty
turned-item ended = ended

turned-element : {e f : Element} → SameElement e f → SameElement f e
turned-element (of_tree same) = of_tree (turned-item same)
turned-element (in_addition same) = in_addition (turned-item same)

then-item : {x y z : Item} → SameItem x y → SameItem y z → SameItem x z
then-item (begins one) (begins two) = begins (one ∙ two)
then-item named named = named
then-item empty empty = empty
then-item ended ended = ended

then-element : {e f g : Element} → SameElement e f → SameElement f g → SameElement e g
then-element (of_tree one) (of_tree two) = of_tree (then-item one two)
then-element (in_addition one) (in_addition two) = in_addition (then-item one two)

cleared-item : (x : Item) → SameItem x (cleared_item x)
cleared-item (h.Open field head) = begins (sym (head-twice head))
cleared-item (h.Ident field sym ctxt role) = named
cleared-item (h.Hole field) = empty
cleared-item h.Close = ended

-- ---- lists, place by place
pub zip-turned : {A : Type 0} (R : A → A → Type 0) → ((x y : A) → R x y → R y x) →
    (xs ys : List A) → AllZip R xs ys → AllZip R ys xs
zip-turned R turn [] [] all = tt
zip-turned R turn [] (y ∷ ys) all = absurd all
zip-turned R turn (x ∷ xs) [] all = absurd all
zip-turned R turn (x ∷ xs) (y ∷ ys) all = (turn x y all.0, zip-turned R turn xs ys all.1)

-- of a first list and a second, and of the second and a third
pub zip-through : {A B C : Type 0} (R : A → B → Type 0) (S : B → C → Type 0) (T : A → C → Type 0) →
    ((x : A) (y : B) (z : C) → R x y → S y z → T x z) → (xs : List A) (ys : List B) (zs : List C) →
    AllZip R xs ys → AllZip S ys zs → AllZip T xs zs
zip-through R S T join [] [] [] one two = tt
zip-through R S T join [] [] (z ∷ zs) one two = absurd two
zip-through R S T join [] (y ∷ ys) zs one two = absurd one
zip-through R S T join (x ∷ xs) [] zs one two = absurd one
zip-through R S T join (x ∷ xs) (y ∷ ys) [] one two = absurd two
zip-through R S T join (x ∷ xs) (y ∷ ys) (z ∷ zs) one two =
    (join x y z one.0 two.0, zip-through R S T join xs ys zs one.1 two.1)

pub turned-elements : (es fs : List Element) → SameElements es fs → SameElements fs es
turned-elements = zip-turned SameElement (λ x y same. turned-element same)

then-elements : (es fs gs : List Element) → SameElements es fs → SameElements fs gs →
    SameElements es gs
then-elements =
    zip-through SameElement SameElement SameElement (λ x y z one two. then-element one two)

-- ---- the own statements of a tree and of the cleared one
taken-same : (start : ℕ) (items : List Item) →
    SameElements (taken_from start items) (taken_from start (cleared items))
taken-same start [] = tt
taken-same start (x ∷ items) = (of_tree (cleared-item x), taken-same (suc start) items)

moved-same : (field : ℕ) (x : Item) → SameItem (moved_to field x) (moved_to field (cleared_item x))
moved-same field (h.Open old head) = begins (sym (head-twice head))
moved-same field (h.Ident old sym ctxt role) = named
moved-same field (h.Hole old) = empty
moved-same field h.Close = ended

in-field-same : (field start : ℕ) (items : List Item) →
    SameElements (taken_in_field field start items) (taken_in_field field start (cleared items))
in-field-same field start [] = tt
in-field-same field start (x ∷ items) = (of_tree (moved-same field x), taken-same (suc start) items)

itself-item : (x : Item) → SameItem x x
itself-item (h.Open field head) = begins refl
itself-item (h.Ident field sym ctxt role) = named
itself-item (h.Hole field) = empty
itself-item h.Close = ended

itself-element : (e : Element) → SameElement e e
itself-element (taken place x) = of_tree (itself-item x)
itself-element (written x) = in_addition (itself-item x)

zip-itself : (es : List Element) → SameElements es es
zip-itself [] = tt
zip-itself (e ∷ es) = (itself-element e, zip-itself es)

-- the beginning of a constant, and its ends
abbrev start_of : List Element
start_of =
    written (h.Open 0 (h.VarDecl Const no_notes)) ∷ written (h.Open 1 h.VarDeclarator)
    ∷ written (h.Open 0 h.BindingIdent) ∷ default_binding ∷ written h.Close ∷ []

abbrev ends : List Element
ends = written h.Close ∷ written h.Close ∷ []

constant-same : (start : ℕ) (items : List Item) →
    SameElements (default_constant start items) (default_constant start (cleared items))
constant-same start items =
    zip-append SameElement start_of (taken_in_field 1 start items ++ ends) start_of
    (taken_in_field 1 start (cleared items) ++ ends) (zip-itself start_of)
    (zip-append SameElement (taken_in_field 1 start items) ends
    (taken_in_field 1 start (cleared items)) ends (in-field-same 1 start items) (zip-itself ends))

name-same : (start : ℕ) (items : List Item) →
    SameElements (with_name start items) (with_name start (cleared items))
name-same start [] = tt
name-same start (h.Open field head ∷ rest) =
    (itself-element default_binding, taken-same start (h.Open field head ∷ rest))
name-same start (h.Ident field sym ctxt role ∷ rest) =
    taken-same start (h.Ident field sym ctxt role ∷ rest)
name-same start (h.Hole field ∷ rest) = taken-same start (h.Hole field ∷ rest)
name-same start (h.Close ∷ rest) = taken-same start (h.Close ∷ rest)

declaration-head : (head : Head) →
    cleared_head (declaration_head (cleared_head head)) ≡ cleared_head (declaration_head head)
declaration-head head =
    of_head (λ head. cleared_head (declaration_head head))
    (λ meta. (refl, refl, refl, λ kind. refl)) head

declaration-same : (start : ℕ) (items : List Item) →
    SameElements (default_declaration start items) (default_declaration start (cleared items))
declaration-same start [] = tt
declaration-same start (h.Open field head ∷ rest) =
    (of_tree (begins (sym (declaration-head head))), name-same (suc start) rest)
declaration-same start (h.Ident field sym ctxt role ∷ rest) =
    taken-same start (h.Ident field sym ctxt role ∷ rest)
declaration-same start (h.Hole field ∷ rest) = taken-same start (h.Hole field ∷ rest)
declaration-same start (h.Close ∷ rest) = taken-same start (h.Close ∷ rest)

without_last-cleared : (items : List Item) →
    without_last (cleared items) ≡ cleared (without_last items)
without_last-cleared [] = refl
without_last-cleared (x ∷ []) = refl
without_last-cleared (x ∷ y ∷ rest) =
    ap (λ l. cleared_item x ∷ l) (without_last-cleared (y ∷ rest))

-- lists of statements
abbrev pub SameStatements : List (List Element) → List (List Element) → Type 0
SameStatements xs ys = AllZip SameElements xs ys

stated_by-same : (head : Head) (start field : ℕ) (rest : List Item) →
    SameStatements (stated_by head start (h.Open field head ∷ rest))
    (stated_by (cleared_head head) start (h.Open field (cleared_head head) ∷ cleared rest))
stated_by-same (h.ImportDecl meta) start field rest = tt
stated_by-same (h.NamedExport meta) start field rest = tt
stated_by-same (h.ExportAll meta) start field rest = tt
stated_by-same h.EmptyStmt start field rest = tt
stated_by-same h.ExportDecl start field rest = (
  subst (λ l. SameElements (taken_from (suc start) (without_last rest)) (taken_from (suc start) l))
      (sym (without_last-cleared rest)) (taken-same (suc start) (without_last rest)),
  tt,
)
stated_by-same h.ExportDefaultExpr start field rest = (
  subst
      (λ l. SameElements (default_constant (suc start) (without_last rest))
      (default_constant (suc start) l))
      (sym (without_last-cleared rest)) (constant-same (suc start) (without_last rest)),
  tt,
)
stated_by-same h.ExportDefaultDecl start field rest = (
  subst
      (λ l. SameElements (default_declaration (suc start) (without_last rest))
      (default_declaration (suc start) l))
      (sym (without_last-cleared rest)) (declaration-same (suc start) (without_last rest)),
  tt,
)
stated_by-same (h.VarDecl kind meta) start field rest =
    (taken-same start (h.Open field (h.VarDecl kind meta) ∷ rest), tt)
stated_by-same head start field rest = (taken-same start (h.Open field head ∷ rest), tt)

stated-same : (start : ℕ) (items : List Item) →
    SameStatements (stated start items) (stated start (cleared items))
stated-same start [] = tt
stated-same start (h.Open field head ∷ rest) = stated_by-same head start field rest
stated-same start (h.Ident field sym ctxt role ∷ rest) =
    (taken-same start (h.Ident field sym ctxt role ∷ rest), tt)
stated-same start (h.Hole field ∷ rest) = (taken-same start (h.Hole field ∷ rest), tt)
stated-same start (h.Close ∷ rest) = (taken-same start (h.Close ∷ rest), tt)

-- what the nodes state, which stand one after the other from a place on
abbrev states : ℕ → List (List Item) → List (List Element)
states start nodes = flat_map (λ (top : TopItem). stated top.start top.items) (placed start nodes)

nodes-same : (start : ℕ) (nodes : List (List Item)) →
    SameStatements (states start nodes) (states start (map cleared nodes))
nodes-same start [] = tt
nodes-same start (node ∷ nodes) =
    zip-append SameElements (stated start node) (states (start + length node) nodes)
    (stated start (cleared node)) (states (start + length (cleared node)) (map cleared nodes))
    (stated-same start node)
    (subst
    (λ n. SameStatements (states (start + length node) nodes)
    (states (start + n) (map cleared nodes)))
    (sym (length-cleared node)) (nodes-same (start + length node) nodes))

cleared-states : (tree : List Item) →
    SameStatements (own_statements tree) (own_statements (cleared tree))
cleared-states tree =
    subst (λ nodes. SameStatements (own_statements tree) (states 1 nodes))
    (sym (parts-cleared tree))
    (nodes-same 1 (parts tree))

-- trees that are the same once they are cleared have the same own statements
pub same-statements : (t u : List Item) → cleared t ≡ cleared u →
    SameStatements (own_statements t) (own_statements u)
same-statements t u same =
    zip-through SameElements SameElements SameElements then-elements (own_statements t)
    (own_statements (cleared t))
    (own_statements u) (cleared-states t)
    (zip-turned SameElements turned-elements (own_statements u) (own_statements (cleared t))
    (subst (λ tree. SameStatements (own_statements u) (own_statements tree)) (sym same)
    (cleared-states u)))
