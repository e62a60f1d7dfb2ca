-- What is fit is laid out as the JSON form wants it: it is the list of a tree whose nodes have their own fields.
use Rattle.std.proofs.Common.{◌≡◌, ℕ, ◌==◌, ◌&&◌, Bool, true, false, List, [], ◌∷◌, ◌++◌, append_assoc, append-nil, refl, sym, ap, ◌∙◌, subst, eqb-true}
use Rattle.std.proofs.lemmas.Bool.{false≢true, and_parts}
use Rattle.bundle_syntax.specs.declared.piece.Role.{Role}
use Rattle.bundle_syntax.specs.Item as h
use Rattle.bundle_syntax.specs.Item.{Item, Head}
use Rattle.bundle_scope_names.specs.fit.Sorts.{NodeSort, NodeCount, One, Optional, Many, Places, NodeSlot, slot, names_of_sort, slots}
use Rattle.bundle_scope_names.specs.fit.Fits.{fields_after, AreFit, no_more, over, a_name, a_hole, a_node, IsFit, name, node}
use Rattle.bundle_json_form.specs.Form as f
use Rattle.bundle_json_form.specs.declared.layout.Shape.{Shape}
use Rattle.bundle_json_form.specs.declared.layout.Shape.TheVariants as s
use Rattle.bundle_json_form.specs.Form.{Field, node_fields, Tree, Fields, Trees, tree_items, fields_items, trees_items, Fits, IsLaidOut, AreLaidOut}

abbrev same_shape : NodeCount → Shape → Bool
same_shape One s.One = true
same_shape Optional s.Optional = true
same_shape Many s.List = true
same_shape Places s.Places = true
same_shape _ _ = false

-- the same fields, by their numbers and how many nodes they hold
abbrev pub agree : List NodeSlot → List Field → Bool
agree [] [] = true
agree (slot number count sort ∷ more) (it ∷ others) =
    ((it.number == number) && same_shape count it.shape) && agree more others
agree _ _ = false

pub agree_all : (head : Head) (names : Role) → agree (slots head names) (node_fields head) ≡ true
agree_all h.Module names = refl
agree_all (h.NewExpr true) names = refl
agree_all (h.NewExpr false) names = refl
agree_all _ names = refl

-- trees in these fields have these elements
pub record IsShown (them : List Field) (items : List Item) : Type 0 where
  pub inside : Fields
  pub listed : items ≡ fields_items inside
  pub laid : AreLaidOut them inside

fits_none : (shape : Shape) → Fits shape f.no_trees
fits_none s.One = tt
fits_none s.Optional = tt
fits_none s.List = tt
fits_none s.Places = tt

fits_one : (shape : Shape) (it : Tree) → Fits shape (f.tree it f.no_trees)
fits_one s.One it = tt
fits_one s.Optional it = tt
fits_one s.List it = tt
fits_one s.Places it = tt

-- a field that is over
skipped : (it : Field) (others : List Field) {items : List Item} → IsShown others items →
    IsShown (it ∷ others) items
skipped it others shown = record { inside = f.in_field it.number f.no_trees shown.inside; listed = shown.listed; laid = (refl, fits_none it.shape, tt, shown.laid) }

-- the only tree of a field
single : (it : Field) (others : List Field) (t : Tree) {items : List Item} → IsLaidOut t →
    IsShown others items → IsShown (it ∷ others) (tree_items it.number t ++ items)
single it others t {items = items} laid shown = record {
  inside = f.in_field it.number (f.tree t f.no_trees) shown.inside;
  listed = ap (λ l. tree_items it.number t ++ l) shown.listed ∙ ap (λ l. l ++ fields_items shown.inside) (sym (append-nil (tree_items it.number t)));
  laid = (refl, fits_one it.shape t, (laid, tt), shown.laid);
}

abbrev holds_many : Shape → Bool
holds_many s.One = false
holds_many s.Optional = false
holds_many s.List = true
holds_many s.Places = true

fits_many : (shape : Shape) → holds_many shape ≡ true → (them : Trees) → Fits shape them
fits_many s.One e them = absurd (false≢true e)
fits_many s.Optional e them = absurd (false≢true e)
fits_many s.List e them = tt
fits_many s.Places e them = tt

many : (shape : Shape) → same_shape Many shape ≡ true → holds_many shape ≡ true
many s.List e = refl
many s.One e = absurd (false≢true e)
many s.Optional e = absurd (false≢true e)
many s.Places e = absurd (false≢true e)

places : (shape : Shape) → same_shape Places shape ≡ true → holds_many shape ≡ true
places s.Places e = refl
places s.One e = absurd (false≢true e)
places s.Optional e = absurd (false≢true e)
places s.List e = absurd (false≢true e)

-- one more tree of a list
another : (it : Field) (others : List Field) (t : Tree) {items : List Item} →
    holds_many it.shape ≡ true → IsLaidOut t → (inside : Fields) → items ≡ fields_items inside →
    AreLaidOut (it ∷ others) inside → IsShown (it ∷ others) (tree_items it.number t ++ items)
another it others t holds laid f.no_fields is them = absurd them
another it others t {items = items} holds laid (f.in_field number trees rest) is them = record {
  inside = f.in_field it.number (f.tree t trees) rest;
  listed = ap (λ l. tree_items it.number t ++ l) (is ∙ ap (λ m. trees_items m trees ++ fields_items rest) them.0) ∙ sym (append_assoc (tree_items it.number t) (trees_items it.number trees) (fields_items rest));
  laid = (refl, fits_many it.shape holds (f.tree t trees), (laid, them.2), them.3);
}

-- what a field and the others agree in
number_is : (n : ℕ) (c : NodeCount) (k : NodeSort) (more : List NodeSlot) (it : Field) (others : List Field) →
    agree (slot n c k ∷ more) (it ∷ others) ≡ true → it.number ≡ n
number_is n c k more it others ok =
    eqb-true it.number n
    (and_parts (it.number == n) (same_shape c it.shape) (and_parts ((it.number == n) && same_shape c it.shape) (agree more others) ok).0).0

shape_is : (n : ℕ) (c : NodeCount) (k : NodeSort) (more : List NodeSlot) (it : Field) (others : List Field) →
    agree (slot n c k ∷ more) (it ∷ others) ≡ true → same_shape c it.shape ≡ true
shape_is n c k more it others ok =
    (and_parts (it.number == n) (same_shape c it.shape) (and_parts ((it.number == n) && same_shape c it.shape) (agree more others) ok).0).1

others_are : (n : ℕ) (c : NodeCount) (k : NodeSort) (more : List NodeSlot) (it : Field) (others : List Field) →
    agree (slot n c k ∷ more) (it ∷ others) ≡ true → agree more others ≡ true
others_are n c k more it others ok =
    (and_parts ((it.number == n) && same_shape c it.shape) (agree more others) ok).1

-- a tree, and then what stands in the fields that are left
placed : (n : ℕ) (c : NodeCount) (k : NodeSort) (more : List NodeSlot) (it : Field) (others : List Field)
    (t : Tree) {items : List Item} →
    agree (slot n c k ∷ more) (it ∷ others) ≡ true → IsLaidOut t →
    ((them : List Field) → agree (fields_after n c k more) them ≡ true → IsShown them items) →
    IsShown (it ∷ others) (tree_items n t ++ items)
placed n One k more it others t {items = items} ok laid then =
    subst (λ m. IsShown (it ∷ others) (tree_items m t ++ items))
    (number_is n One k more it others ok)
    (single it others t laid (then others (others_are n One k more it others ok)))
placed n Optional k more it others t {items = items} ok laid then =
    subst (λ m. IsShown (it ∷ others) (tree_items m t ++ items))
    (number_is n Optional k more it others ok)
    (single it others t laid (then others (others_are n Optional k more it others ok)))
placed n Many k more it others t {items = items} ok laid then = let sh = then (it ∷ others) ok in subst (λ m. IsShown (it ∷ others) (tree_items m t ++ items)) (number_is n Many k more it others ok) (another it others t (many it.shape (shape_is n Many k more it others ok)) laid sh.inside sh.listed sh.laid)
placed n Places k more it others t {items = items} ok laid then = let sh = then (it ∷ others) ok in subst (λ m. IsShown (it ∷ others) (tree_items m t ++ items)) (number_is n Places k more it others ok) (another it others t (places it.shape (shape_is n Places k more it others ok)) laid sh.inside sh.listed sh.laid)

-- the elements of a node and of what follows it
node_items : (n : ℕ) (head : Head) (inner : Fields) (inside rest : List Item) →
    inside ≡ fields_items inner →
    tree_items n (f.node head inner) ++ rest ≡ h.Open n head ∷ (inside ++ h.Close ∷ rest)
node_items n head inner inside rest is =
    ap (λ l. h.Open n head ∷ l)
    (append_assoc (fields_items inner) (h.Close ∷ []) rest ∙ ap (λ l. l ++ h.Close ∷ rest) (sym is))

pub shown : {list : List NodeSlot} {items : List Item} → AreFit list items → (them : List Field) →
    agree list them ≡ true → IsShown them items
shown no_more [] ok = record { inside = f.no_fields; listed = refl; laid = tt }
shown no_more (it ∷ others) ok = absurd (false≢true ok)
shown (over e fit) [] ok = absurd (false≢true ok)
shown (over {number = n} {count = c} {sort = k} {more = more} e fit) (it ∷ others) ok =
    skipped it others (shown fit others (others_are n c k more it others ok))
shown (a_name it fit) [] ok = absurd (false≢true ok)
shown (a_name {number = n} {count = c} {sort = k} {more = more} {x = x} {ctxt = t} {role = role} takes_it fit) (it ∷ others) ok = placed n c k more it others (f.ident x t role) ok tt (λ them e. shown fit them e)
shown (a_hole fit) [] ok = absurd (false≢true ok)
shown (a_hole {number = n} {sort = k} {more = more} fit) (it ∷ others) ok =
    placed n Places k more it others f.hole ok tt (λ them e. shown fit them e)
shown (a_node it in_it fit) [] ok = absurd (false≢true ok)
shown (a_node {number = n} {count = c} {sort = k} {more = more} {head = hd} {inside = ins} {rest = rest} takes_it in_it fit) (it ∷ others) ok =
    let sh = shown in_it (node_fields hd) (agree_all hd (names_of_sort k)) in
    subst (IsShown (it ∷ others)) (node_items n hd sh.inside ins rest sh.listed) (placed n c k more it others (f.node hd sh.inside) ok sh.laid (λ them e. shown fit them e))

-- one node is the list of a tree that is laid out
pub record IsShownTree (field : ℕ) (items : List Item) : Type 0 where
  pub tree : Tree
  pub listed : items ≡ tree_items field tree
  pub laid : IsLaidOut tree

pub shown_tree : {sort : NodeSort} {field : ℕ} {items : List Item} → IsFit sort field items →
    IsShownTree field items
shown_tree (name {x = x} {ctxt = t} {role = role} it) = record { tree = f.ident x t role; listed = refl; laid = tt }
shown_tree (node {sort = k} {field = n} {head = hd} {inside = ins} it in_it) =
    let sh = shown in_it (node_fields hd) (agree_all hd (names_of_sort k)) in
    record { tree = f.node hd sh.inside; listed = ap (λ l. h.Open n hd ∷ (l ++ h.Close ∷ [])) sh.listed; laid = sh.laid }
