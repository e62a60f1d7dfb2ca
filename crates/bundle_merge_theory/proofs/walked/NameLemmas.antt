-- What the occurrences of an item mean, in turn, by what they denote.
-- The identifiers in lists one behind the other, and in a list of a tree.
-- The bindings inside a statement have the same numbers in the module and in the bundle.
use Rattle.std.proofs.Common.{◌≡◌, List, [], ◌∷◌, ◌++◌, Option, Some, None, map, refl, ap, ◌∙◌, ℕ, true, false, append-nil, suc, ◌+◌, Bool, not, cond, length, filter}
use Rattle.std.specs.Prelude.{option_map, position, nat_lt}
use Rattle.std.specs.List.{AllZip, cons_option, position_or_len}
use Rattle.bundle_syntax.specs.Item as h
use Rattle.bundle_syntax.specs.Item.{Item, Head}
use Rattle.bundle_syntax.specs.declared.piece.Role.{Role}
use Rattle.bundle_syntax.specs.declared.piece.Role.TheVariants as r
use Rattle.bundle_rules.specs.Places.{Spot, Occurrence, past, occurrence_of, occurrence_at, occurrences_from, start}
use Rattle.bundle_rules.specs.Denotes.{Denoted}
use Rattle.bundle_rules.specs.Meaning.{Sense, NameMeans}
use Rattle.bundle_rules.specs.Nodes.{Text}
use Rattle.bundle_rules.specs.Idents.{ident_of, idents}
use Rattle.bundle_rules.specs.Mentions.{same_denoted, each_denoted_once}
use Rattle.bundle_tree_places.specs.Edits.{node, is_occurrence, binding}
use Rattle.bundle_tree_rebuild.specs.declared.rewrite.Whole.TheVariants.{Alone}
pub use Rattle.bundle_order.proofs.EntryLemmas.{occurrence_of-place as occurrence_place}
use Rattle.bundle_merge_theory.specs.noted.Marked.{Note}
use Rattle.bundle_merge_theory.specs.noted.Agrees.{IsSpotAt, MeansAlone, EachMeans}
use Rattle.bundle_merge_theory.proofs.noted.Spots.{at-past}
pub use Rattle.bundle_merge_theory.proofs.noted.Inner.{position-outside as outside_position}
pub use Rattle.bundle_merge_theory.specs.noted.Agrees.{denoted_here}
pub use Rattle.bundle_merge_theory.proofs.noted.Statements.{denoted_elements as elements_denote, occurrence_there}
use Rattle.bundle_merge_theory.specs.walked.Names.{idents_among}
use Rattle.bundle_merge_theory.specs.walked.Numbers.{AreDenotedOneToOne}

-- ---- denoting

-- names that mean what is noted of them
abbrev pub MeansNote : Sense → List Denoted → Denoted → Note → Type 0
MeansNote sense inner d note = (note.whole ≡ Alone) × NameMeans sense inner d note.meant

pub each_means : (sense : Sense) (inner : List Denoted) (s : Spot) (items tail : List Item) →
    IsSpotAt sense.view.tree s (items ++ tail) → (notes : List Note) →
    AllZip (MeansNote sense inner) (map (denoted_here sense.view) (occurrences_from s items))
    notes → EachMeans sense inner (occurrences_from s items) notes
each_means sense inner s [] tail at notes all = tt
each_means sense inner s (x ∷ items) tail at notes all =
    go (occurrence_of s x) refl notes all
    (each_means sense inner (past s x) items tail (at-past x (items ++ tail) at))
  where
    one : (o : Occurrence) (note : Note) → occurrence_of s x ≡ Some o →
        MeansNote sense inner (denoted_here sense.view o) note → MeansAlone sense inner o note
    one o note is its = record {
      alone = its.0;
      d = denoted_here sense.view o;
      denotes =
          ap (λ place. option_map (denoted_here sense.view) (occurrence_at sense.view.tree place))
          (occurrence_place s x o is)
          ∙ ap (option_map (denoted_here sense.view)) (occurrence_there at ∙ is);
      means = its.1;
    }

    go : (o : Option Occurrence) → occurrence_of s x ≡ o → (its : List Note) →
        AllZip (MeansNote sense inner)
        (map (denoted_here sense.view) (cons_option o (occurrences_from (past s x) items))) its →
        ((others : List Note) →
        AllZip (MeansNote sense inner)
        (map (denoted_here sense.view) (occurrences_from (past s x) items)) others →
        EachMeans sense inner (occurrences_from (past s x) items) others) →
        EachMeans sense inner (cons_option o (occurrences_from (past s x) items)) its
    go None is its each rest = rest its each
    go (Some o) is [] each rest = absurd each
    go (Some o) is (note ∷ its) each rest = (one o note is each.0, rest its each.1)

-- ---- name
pub names_of-append : (xs ys : List Item) → idents_among (xs ++ ys) ≡ idents_among xs ++ idents_among ys
names_of-append [] ys = refl
names_of-append (h.Open field head ∷ xs) ys = names_of-append xs ys
names_of-append (h.Ident field x ctxt r.Word ∷ xs) ys = names_of-append xs ys
names_of-append (h.Ident field x ctxt r.Binding ∷ xs) ys =
    ap (λ more. (x, ctxt) ∷ more) (names_of-append xs ys)
names_of-append (h.Ident field x ctxt r.Reference ∷ xs) ys =
    ap (λ more. (x, ctxt) ∷ more) (names_of-append xs ys)
names_of-append (h.Hole field ∷ xs) ys = names_of-append xs ys
names_of-append (h.Close ∷ xs) ys = names_of-append xs ys

pub node_names : (field : ℕ) (head : Head) (inside : List Item) →
    idents_among (node field head inside) ≡ idents_among inside
node_names field head inside = names_of-append inside (h.Close ∷ []) ∙ append-nil (idents_among inside)

-- those of a name, of a shorthand property, and of a node whose first is kept
pub word_names : (field : ℕ) (x : Text) (ctxt : ℕ) (role : Role) → is_occurrence role ≡ false →
    idents_among (h.Ident field x ctxt role ∷ []) ≡ []
word_names field x ctxt r.Word plain = refl
word_names field x ctxt r.Binding plain = cc
word_names field x ctxt r.Reference plain = cc

pub name_names : (field : ℕ) (x : Text) (ctxt : ℕ) (role : Role) (more : List Item) →
    is_occurrence role ≡ true →
    idents_among (h.Ident field x ctxt role ∷ more) ≡ (x, ctxt) ∷ idents_among more
name_names field x ctxt r.Word more occurs = cc
name_names field x ctxt r.Binding more occurs = refl
name_names field x ctxt r.Reference more occurs = refl

pub short_names : (field : ℕ) (x : Text) (ctxt : ℕ) (role : Role) (default : List Item) →
    is_occurrence role ≡ true →
    idents_among (node field h.AssignPatProp (binding None 0 x ctxt role ++ default))
    ≡ (x, ctxt) ∷ idents_among default
short_names field x ctxt role default occurs =
    node_names field h.AssignPatProp (binding None 0 x ctxt role ++ default)
    ∙ name_names 0 x ctxt role (h.Close ∷ default) occurs

pub kept_names : (field : ℕ) (head : Head) (first : ℕ) (inside more : List Item) →
    idents_among (node field head (node first h.MemberExpr inside ++ more))
    ≡ idents_among inside ++ idents_among more
kept_names field head first inside more =
    node_names field head (node first h.MemberExpr inside ++ more)
    ∙ (names_of-append (node first h.MemberExpr inside) more
    ∙ ap (λ list. list ++ idents_among more) (node_names first h.MemberExpr inside))

-- they are those of the occurrences
pub idents_from : (spot : Spot) (items : List Item) →
    map ident_of (occurrences_from spot items) ≡ idents_among items
idents_from spot [] = refl
idents_from spot (h.Open field head ∷ rest) = idents_from (past spot (h.Open field head)) rest
idents_from spot (h.Ident field x ctxt r.Binding ∷ rest) =
    ap (λ more. (x, ctxt) ∷ more) (idents_from (past spot (h.Ident field x ctxt r.Binding)) rest)
idents_from spot (h.Ident field x ctxt r.Reference ∷ rest) =
    ap (λ more. (x, ctxt) ∷ more) (idents_from (past spot (h.Ident field x ctxt r.Reference)) rest)
idents_from spot (h.Ident field x ctxt r.Word ∷ rest) =
    idents_from (past spot (h.Ident field x ctxt r.Word)) rest
idents_from spot (h.Hole field ∷ rest) = idents_from (past spot (h.Hole field)) rest
idents_from spot (h.Close ∷ rest) = idents_from (past spot h.Close) rest

pub idents-names : (items : List Item) → idents items ≡ idents_among items
idents-names items = idents_from start items

-- ---- numbers

-- where tests agree
abbrev Agreeing : (p q : Denoted → Bool) → Denoted → Denoted → Type 0
Agreeing p q x y = p x ≡ q y

length_agrees : (p q : Denoted → Bool) (xs ys : List Denoted) → AllZip (Agreeing p q) xs ys →
    length xs ≡ length ys
length_agrees p q [] [] all = refl
length_agrees p q [] (y ∷ ys) all = absurd all
length_agrees p q (x ∷ xs) [] all = absurd all
length_agrees p q (x ∷ xs) (y ∷ ys) all = ap suc (length_agrees p q xs ys all.1)

first_agrees : (p q : Denoted → Bool) (xs ys : List Denoted) → AllZip (Agreeing p q) xs ys →
    position_or_len p xs ≡ position_or_len q ys
first_agrees p q [] [] all = refl
first_agrees p q [] (y ∷ ys) all = absurd all
first_agrees p q (x ∷ xs) [] all = absurd all
first_agrees p q (x ∷ xs) (y ∷ ys) all =
    λ i. cond (not (all.0 i)) (1 + first_agrees p q xs ys all.1 i) 0

position_agrees : (p q : Denoted → Bool) (xs ys : List Denoted) → AllZip (Agreeing p q) xs ys →
    position p xs ≡ position q ys
position_agrees p q xs ys all =
    λ i.
    cond (nat_lt (first_agrees p q xs ys all i) (length_agrees p q xs ys all i))
    (Some (first_agrees p q xs ys all i)) None

-- one more, where it passes
pick : (R : Denoted → Denoted → Type 0) (b c : Bool) (x y : Denoted) (xs ys : List Denoted) →
    b ≡ c → (b ≡ true → R x y) → AllZip R xs ys →
    AllZip R (cond b (x ∷ xs) xs) (cond c (y ∷ ys) ys)
pick R true true x y xs ys same its all = (its refl, all)
pick R false false x y xs ys same its all = all
pick R true false x y xs ys same its all = cc
pick R false true x y xs ys same its all = cc

-- what passes
pub both_filtered : (R : Denoted → Denoted → Type 0) (p q : Denoted → Bool) →
    ((x y : Denoted) → R x y → p x ≡ q y) → (xs ys : List Denoted) → AllZip R xs ys →
    AllZip R (filter p xs) (filter q ys)
both_filtered R p q agree [] [] all = tt
both_filtered R p q agree [] (y ∷ ys) all = absurd all
both_filtered R p q agree (x ∷ xs) [] all = absurd all
both_filtered R p q agree (x ∷ xs) (y ∷ ys) all =
    pick R (p x) (q y) x y (filter p xs) (filter q ys) (agree x y all.0) (λ is. all.0)
    (both_filtered R p q agree xs ys all.1)

pub both_once : (R : Denoted → Denoted → Type 0) → AreDenotedOneToOne R → (xs ys : List Denoted) →
    AllZip R xs ys → AllZip R (each_denoted_once xs) (each_denoted_once ys)
both_once R one [] [] all = tt
both_once R one [] (y ∷ ys) all = absurd all
both_once R one (x ∷ xs) [] all = absurd all
both_once R one (x ∷ xs) (y ∷ ys) all = (
  all.0,
  both_filtered R (λ other. not (same_denoted x other))
      (λ other. not (same_denoted y other)) (λ a b its. ap not (one x a y b all.0 its))
      (each_denoted_once xs) (each_denoted_once ys) (both_once R one xs ys all.1),
)

each_weaker : {R S : Denoted → Denoted → Type 0} → ((x y : Denoted) → R x y → S x y) →
    (xs ys : List Denoted) → AllZip R xs ys → AllZip S xs ys
each_weaker weaker [] [] all = tt
each_weaker weaker [] (y ∷ ys) all = absurd all
each_weaker weaker (x ∷ xs) [] all = absurd all
each_weaker weaker (x ∷ xs) (y ∷ ys) all = (weaker x y all.0, each_weaker weaker xs ys all.1)

-- what becomes each other has one number
pub numbers_agree : (R : Denoted → Denoted → Type 0) → AreDenotedOneToOne R → (xs ys : List Denoted) →
    AllZip R xs ys → (a b : Denoted) → R a b →
    position (same_denoted a) (each_denoted_once xs)
    ≡ position (same_denoted b) (each_denoted_once ys)
numbers_agree R one xs ys all a b its =
    position_agrees (same_denoted a) (same_denoted b) (each_denoted_once xs) (each_denoted_once ys)
    (each_weaker (λ x y there. one a x b y its there) (each_denoted_once xs) (each_denoted_once ys)
    (both_once R one xs ys all))
