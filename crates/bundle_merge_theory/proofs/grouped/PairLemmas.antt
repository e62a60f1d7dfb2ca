-- The items of a module of which identifiers change, each beside what it becomes.
use Rattle.std.proofs.Common.{◌≡◌, ℕ, zero, ◌+◌, Bool, true, false, List, [], ◌∷◌, ◌++◌, Option, Some, None, length, drop, take, refl, sym, ap, ◌∙◌, subst, append_assoc, append-nil}
use Rattle.std.specs.Prelude.{fold, if◌then◌else◌}
use Rattle.std.specs.List.{AllZip}
use Rattle.std.proofs.lemmas.Option.{same_Some}
use Rattle.std.proofs.lemmas.List.{length-append, take_at}
use Rattle.std.proofs.lemmas.List.Sums.{fold-append}
use Rattle.std.proofs.Math.Seq.{take-add}
use Rattle.bundle_syntax.specs.declared.piece.Role.{Role}
use Rattle.bundle_syntax.specs.Item as h
use Rattle.bundle_syntax.specs.Item.{Item}
use Rattle.bundle_rules.specs.Places.{Around, Spot, past, start, in_field, occurrences_from}
use Rattle.bundle_rules.specs.Nodes.{Text, side_by_side, flat}
use Rattle.bundle_rules.specs.Statements.{TopItem, placed, top_items}
use Rattle.bundle_rules.specs.Rebuilds.{Change, spells_out, plain_key}
use Rattle.bundle_tree_places.specs.Edits.{Around as Surrounding, Anywhere, InObject, InSpecifier, Edits, Edited, Nothing, Joined, Hole, Word, Name, Inside, Shorthand, node, next, renamed, binding, pattern_in_its_place}
use Rattle.bundle_order.proofs.RenumberLemmas.{zip-at}
use Rattle.bundle_link.proofs.NodePaths.{drop-past}
use Rattle.bundle_merge_theory.specs.grouped.Forms.{Under, below}
use Rattle.bundle_merge_theory.specs.grouped.Placed.{IsDirect}
use Rattle.bundle_merge_theory.specs.grouped.Renaming.{AtOne}
use Rattle.bundle_merge_theory.proofs.grouped.WholeLemmas.{Whole, nothing, hole, name, inner, joined, beside, beside-node, parts-node, keeps}
use Rattle.bundle_merge_theory.proofs.grouped.EditLemmas.{whole-before, whole-after, whole-binding, whole-pattern, IsAnywhere, so}
use Rattle.bundle_merge_theory.proofs.grouped.PlacedLemmas.{roles, roles-count, roles-edited}
use Rattle.bundle_merge_theory.proofs.grouped.AlikeLemmas.{count_before}
use Rattle.bundle_merge_theory.proofs.joined.Paths.{flat-append, occurrences-append}

-- ---- node by node
pub data EditsEach : List Change → List (List Item) → List (List Item) → List Change → Type 0 where
  none : {changes : List Change} → EditsEach changes [] [] changes
  more : {changes between rest : List Change} {one two : List Item} {ones twos : List (List Item)}
      →
      Edits Anywhere changes one two between → EditsEach between ones twos rest →
      EditsEach changes (one ∷ ones) (two ∷ twos) rest

each-append : {changes between rest : List Change} {ones twos ones' twos' : List (List Item)} →
    EditsEach changes ones twos between → EditsEach between ones' twos' rest →
    EditsEach changes (ones ++ ones') (twos ++ twos') rest
each-append none later = later
each-append (more edits each) later = more edits (each-append each later)

each-one : {changes rest : List Change} {one two : List Item} →
    Edits Anywhere changes one two rest → side_by_side zero one ≡ one ∷ [] →
    side_by_side zero two ≡ two ∷ [] →
    EditsEach changes (side_by_side zero one) (side_by_side zero two) rest
each-one {changes = changes} {rest = rest} {one = one} {two = two} edits e e' =
    subst (λ l. EditsEach changes l (side_by_side zero two) rest) (sym e)
    (subst (λ l. EditsEach changes (one ∷ []) l rest) (sym e') (more edits none))

side-renamed : (change : Option Change) (field : ℕ) (x : Text) (ctxt : ℕ) (role : Role) →
    side_by_side zero (renamed change field x ctxt role ∷ [])
    ≡ (renamed change field x ctxt role ∷ []) ∷ []
side-renamed None field x ctxt role = refl
side-renamed (Some change) field x ctxt role = refl

side-short : (b : Bool) (change : Option Change) (field : ℕ) (x : Text) (ctxt : ℕ) (role : Role)
    (made : List Item) →
    Whole made →
    side_by_side zero (if b then node field h.KeyValuePatProp
    (plain_key x ++ pattern_in_its_place change x ctxt role made) else node field
    h.AssignPatProp (binding change 0 x ctxt role ++ made))
    ≡ (if b then node field h.KeyValuePatProp
    (plain_key x ++ pattern_in_its_place change x ctxt role made) else node field
    h.AssignPatProp (binding change 0 x ctxt role ++ made)) ∷ []
side-short true change field x ctxt role made whole =
    beside-node field h.KeyValuePatProp
    (joined (inner 0 (h.IdentName x) nothing) (whole-pattern change x ctxt role whole)) []
side-short false change field x ctxt role made whole =
    beside-node field h.AssignPatProp (joined (whole-binding change 0 x ctxt role) whole) []

pub each-split : {around : Surrounding} {changes rest : List Change} {before after : List Item} →
    Edits around changes before after rest → IsAnywhere around →
    EditsEach changes (side_by_side zero before) (side_by_side zero after) rest
each-split Nothing is = none
each-split {changes = changes} {rest = rest}
    (Joined {first = first} {made_first = made_first} {second = second} {made_second = made_second}
    one two) is =
    subst (λ l. EditsEach changes l (side_by_side zero (made_first ++ made_second)) rest)
    (sym (beside (whole-before one) second))
    (subst (λ l. EditsEach changes (side_by_side zero first ++ side_by_side zero second) l rest)
    (sym (beside (whole-after one) made_second))
    (each-append (each-split one is) (each-split two is)))
each-split (Hole field) is = more (Hole field) none
each-split (Word field x ctxt role plain) is = more (Word field x ctxt role plain) none
each-split (Name Anywhere {changes = changes} field x ctxt role occurs) is =
    each-one (Name Anywhere field x ctxt role occurs) refl
    (side-renamed (next changes) field x ctxt role)
each-split (Name InObject field x ctxt role occurs) is = elim is [ ]
each-split (Name InSpecifier field x ctxt role occurs) is = elim is [ ]
each-split (Inside field head plain one) is =
    each-one (Inside field head plain one) (beside-node field head (whole-before one) [])
    (beside-node field head (whole-after one) [])
each-split (Shorthand {changes = changes} field x ctxt role {default = d} {made = made} occurs one)
    is =
    each-one (Shorthand field x ctxt role occurs one)
    (beside-node field h.AssignPatProp
    (joined (whole-binding None 0 x ctxt role) (whole-before one)) [])
    (side-short (spells_out (next changes)) (next changes) field x ctxt role made
    (whole-after one))

-- ---- the nodes of a list give the list
pub flat-sides : {xs : List Item} → Whole xs → flat (side_by_side zero xs) ≡ xs
flat-sides nothing = refl
flat-sides (hole field) = refl
flat-sides (name field x ctxt role) = refl
flat-sides (inner field head {inside = inside} whole) =
    ap flat (beside-node field head whole []) ∙ append-nil (node field head inside)
flat-sides (joined {xs = xs} {ys = ys} one two) =
    ap flat (beside one ys)
    ∙ (flat-append (side_by_side zero xs) (side_by_side zero ys)
    ∙ (ap (λ (l : List Item). l ++ flat (side_by_side zero ys)) (flat-sides one)
    ∙ ap (λ (l : List Item). xs ++ l) (flat-sides two)))

-- ---- the items and their places
pub take-past : (n : ℕ) (w xs rest : List Item) → drop n w ≡ xs ++ rest →
    take (n + length xs) w ≡ take n w ++ xs
take-past n w xs rest e =
    take-add n (length xs) w
    ∙ ap (λ (l : List Item). take n w ++ l) (ap (take (length xs)) e
    ∙ take_at xs rest (length xs) refl)

-- directly in the module
abbrev pub UnderAt : List Item → ℕ → Type 0
UnderAt tree n = (m : ℕ) → Under [] (in_field m (fold past start (take n tree)).path)

pub under-past : (tree : List Item) (n : ℕ) (xs rest : List Item) → Whole xs →
    drop n tree ≡ xs ++ rest → UnderAt tree n → UnderAt tree (n + length xs)
under-past tree n xs rest whole e under m =
    subst (λ (p : List Around). Under [] p)
    (sym (ap (λ (l : List Item). in_field m (fold past start l).path)
    (take-past n tree xs rest e)
    ∙ (ap (λ (s : Spot). in_field m s.path) (fold-append past start (take n tree) xs)
    ∙ keeps whole (fold past start (take n tree)) m))) (under m)

count-past : (tree : List Item) (n : ℕ) (xs rest : List Item) → drop n tree ≡ xs ++ rest →
    count_before tree (n + length xs) ≡ count_before tree n + length (roles xs)
count-past tree n xs rest e =
    ap (λ (l : List Item). length (occurrences_from start l)) (take-past n tree xs rest e)
    ∙ (ap length (occurrences-append start (take n tree) xs)
    ∙ (length-append (occurrences_from start (take n tree))
    (occurrences_from (fold past start (take n tree)) xs)
    ∙ ap (λ k. count_before tree n + k) (roles-count (fold past start (take n tree)) xs)))

-- an item, and what it becomes
pub record Pair (tree its_tree : List Item) (item its : TopItem) : Type 0 where
  pub changes : List Change
  pub edited : Edited changes item.items its.items
  pub direct : IsDirect tree item
  pub its_direct : IsDirect its_tree its
  pub counted : count_before tree item.start ≡ count_before its_tree its.start

pub paired : (tree its_tree : List Item) {changes rest : List Change} {xs ys : List (List Item)} →
    EditsEach changes xs ys rest → (n m : ℕ) (pb pa : List Item) → drop n tree ≡ flat xs ++ pb →
    drop m its_tree ≡ flat ys ++ pa → UnderAt tree n → UnderAt its_tree m →
    count_before tree n ≡ count_before its_tree m →
    AllZip (Pair tree its_tree) (placed n xs) (placed m ys)
paired tree its_tree none n m pb pa here its under its_under counted = tt
paired tree its_tree (more {changes = changes} {between = between} {one = one} {two = two}
    {ones = ones} {twos = twos} edits each) n m pb pa here its under its_under counted =
    let here_one : drop n tree ≡ one ++ (flat ones ++ pb) = here
    ∙ append_assoc one (flat ones) pb in
    let its_two : drop m its_tree ≡ two ++ (flat twos ++ pa) = its
    ∙ append_assoc two (flat twos) pa in (
      record {
        changes = changes;
        edited = record { rest = between; by = edits };
        direct = record { rest = flat ones ++ pb; is = here_one; under = under };
        its_direct = record { rest = flat twos ++ pa; is = its_two; under = its_under };
        counted = counted;
      },
      paired tree its_tree each (n + length one) (m + length two) pb pa
          (drop-past tree n one (flat ones ++ pb) here_one)
          (drop-past its_tree m two (flat twos ++ pa) its_two)
          (under-past tree n one (flat ones ++ pb) (whole-before edits) here_one under)
          (under-past its_tree m two (flat twos ++ pa) (whole-after edits) its_two its_under)
          (count-past tree n one (flat ones ++ pb) here_one
          ∙ (ap (λ k. k + length (roles one)) counted
          ∙ (ap (λ l. count_before its_tree m + length l) (roles-edited edits)
          ∙ sym (count-past its_tree m two (flat twos ++ pa) its_two)))),
    )

-- the items of a module
pub module-paired : (f g : ℕ) {changes rest : List Change} {inside made : List Item} →
    Edits Anywhere changes inside made rest →
    AllZip (Pair (node f h.Module inside) (node g h.Module made))
    (top_items (node f h.Module inside)) (top_items (node g h.Module made))
module-paired f g {inside = inside} {made = made} edits =
    subst (λ l. AllZip (Pair (node f h.Module inside) (node g h.Module made)) (placed 1 l)
    (top_items (node g h.Module made))) (sym (parts-node f h.Module (whole-before edits)))
    (subst (λ l. AllZip (Pair (node f h.Module inside) (node g h.Module made))
    (placed 1 (side_by_side zero inside)) (placed 1 l))
    (sym (parts-node g h.Module (whole-after edits)))
    (paired (node f h.Module inside) (node g h.Module made) (each-split edits so) 1 1
    (h.Close ∷ []) (h.Close ∷ [])
    (ap (λ (l : List Item). l ++ h.Close ∷ []) (sym (flat-sides (whole-before edits))))
    (ap (λ (l : List Item). l ++ h.Close ∷ []) (sym (flat-sides (whole-after edits))))
    (λ m. below 0 m) (λ m. below 0 m) refl))

-- and of any choice of them
pub chosen-paired : (tree its_tree : List Item) →
    AllZip (Pair tree its_tree) (top_items tree) (top_items its_tree) →
    (items its : List TopItem) → AllZip (AtOne tree its_tree) items its →
    AllZip (Pair tree its_tree) items its
chosen-paired tree its_tree all [] [] zip = tt
chosen-paired tree its_tree all [] (y ∷ its) zip = absurd zip
chosen-paired tree its_tree all (x ∷ items) [] zip = absurd zip
chosen-paired tree its_tree all (x ∷ items) (y ∷ its) zip =
    let found = zip-at (Pair tree its_tree) (top_items tree) (top_items its_tree) zip.0.at x all
    zip.0.here in (
      subst (λ (z : TopItem). Pair tree its_tree x z)
          (same_Some found.0 y (sym found.1 ∙ zip.0.there)) found.2,
      chosen-paired tree its_tree all items its zip.1,
    )
