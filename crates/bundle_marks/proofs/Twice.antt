-- To edit a tree and then what it became is to edit it once.
use Rattle.std.proofs.Common.{◌≡◌, ℕ, ◌&&◌, ◌||◌, Bool, true, false, List, [], ◌∷◌, ◌++◌, Some, None, map, bytes_eq, refl, ap, ap₂, sym, ◌∙◌}
use Rattle.std.proofs.lemmas.Bool.{and_parts}
use Rattle.std.proofs.lemmas.List.{map-append}
use Rattle.std.specs.Prelude.{codes, if◌then◌else◌}
use Rattle.bundle_syntax.specs.declared.piece.Role.{Role}
use Rattle.bundle_syntax.specs.Item as h
use Rattle.bundle_syntax.specs.Item.{Item}
use Rattle.bundle_rules.specs.Nodes.{Text}
use Rattle.bundle_rules.specs.Idents.{Ident}
use Rattle.bundle_rules.specs.Rebuilds.{Change, plain_key, key_in_object}
use Rattle.bundle_tree_places.specs.Edits.{InObject, InSpecifier, node, is_occurrence, in_its_place, pattern_in_its_place, shorthand_in_its_place}
use Rattle.bundle_marks.specs.Renamings.{KeepsSymbols}
use Rattle.bundle_marks.proofs.Shapes.{Part, Specified, Nothing, Joined, Hole, Plain, Name, Inside, Specifier, Shorthand, alone, named, plain, plains, word, made, specified, names, names_specified, again, specified_again, either, either_specified, key_part, object_key_part, pair_part, pattern_part}

-- a change, and then another of what it gave
abbrev pub then_change : Change → Change → Change
then_change one two = record { ident = two.ident; is_spelled_out = one.is_spelled_out || two.is_spelled_out }

abbrev pub both : (Ident → Change) → (Ident → Change) → Ident → Change
both F G ident = then_change (F ident) (G (F ident).ident)

-- a change of these two
abbrev change : Ident → Bool → Change
change ident b = record { ident = ident; is_spelled_out = b }

module _ (G : Ident → Change) where
  -- Specifiers.

  alone_twice : (field : ℕ) (x : Text) (ctxt : ℕ) (role : Role) (occurs : is_occurrence role ≡ true) (new : Ident) (b : Bool) → (b ≡ false → new.0 ≡ x) → specified G (either_specified b (named field new.0 new.1 role occurs (word 1 x 0)) (alone field new.0 new.1 role occurs)) ≡ in_its_place InSpecifier (Some (then_change (change new b) (G new))) field x ctxt role
  alone_twice field x ctxt role occurs new true keeps = refl
  alone_twice field x ctxt role occurs new false keeps = ap (λ symbol. in_its_place InSpecifier (Some (G new)) field symbol ctxt role) (keeps refl)

  alone_names : (field : ℕ) (x : Text) (role : Role) (occurs : is_occurrence role ≡ true) (new : Ident) (b : Bool) → names_specified (either_specified b (named field new.0 new.1 role occurs (word 1 x 0)) (alone field new.0 new.1 role occurs)) ≡ new ∷ []
  alone_names field x role occurs new true = refl
  alone_names field x role occurs new false = refl

  -- Shorthands of object literals.

  key_made : (x : Text) → made G (object_key_part x) ≡ key_in_object x
  key_made x = by (bytes_eq x (codes "__proto__"))
    where
      by : (b : Bool) → made G (either b {o = false} (Inside 0 h.ComputedPropName refl (Inside 0 (h.Str x None) refl Nothing)) (key_part x)) ≡ (if b then h.Open 0 h.ComputedPropName ∷ h.Open 0 (h.Str x None) ∷ h.Close ∷ h.Close ∷ [] else plain_key x)
      by true = refl
      by false = refl

  key_names : (x : Text) → names (object_key_part x) ≡ []
  key_names x = by (bytes_eq x (codes "__proto__"))
    where
      by : (b : Bool) → names (either b {o = false} (Inside 0 h.ComputedPropName refl (Inside 0 (h.Str x None) refl Nothing)) (key_part x)) ≡ []
      by true = refl
      by false = refl

  pair_twice : (field : ℕ) (x : Text) (ctxt : ℕ) (role : Role) (occurs : is_occurrence role ≡ true) (new : Ident) (b : Bool) → (b ≡ false → new.0 ≡ x) → made G (either b (pair_part new field x role occurs) (Name true field new.0 new.1 role occurs)) ≡ in_its_place InObject (Some (then_change (change new b) (G new))) field x ctxt role
  pair_twice field x ctxt role occurs new true keeps = ap (λ (key : List Item). node field h.KeyValueProp (key ++ h.Ident 1 (G new).ident.0 (G new).ident.1 role ∷ [])) (key_made x)
  pair_twice field x ctxt role occurs new false keeps = ap (λ symbol. in_its_place InObject (Some (G new)) field symbol ctxt role) (keeps refl)

  pair_names : (field : ℕ) (x : Text) (role : Role) (occurs : is_occurrence role ≡ true) (new : Ident) (b : Bool) → names (either b (pair_part new field x role occurs) (Name true field new.0 new.1 role occurs)) ≡ new ∷ []
  pair_names field x role occurs new true = ap (λ (all : List Ident). all ++ new ∷ []) (key_names x)
  pair_names field x role occurs new false = refl

  -- Shorthands of patterns.

  -- whether nothing is there
  abbrev is_none : List Item → Bool
  is_none [] = true
  is_none (x ∷ rest) = false

  none_append : (xs ys : List Item) → is_none (xs ++ ys) ≡ (is_none xs && is_none ys)
  none_append [] ys = refl
  none_append (x ∷ xs) ys = refl

  none_either : (b : Bool) (xs ys : List Item) → is_none xs ≡ false → is_none ys ≡ false → is_none (if b then xs else ys) ≡ false
  none_either true xs ys one two = one
  none_either false xs ys one two = two

  none_made : {o : Bool} {tree : List Item} (one : Part o tree) → is_none (made G one) ≡ is_none tree
  none_made Nothing = refl
  none_made (Joined {first = first} {second = second} one two) = none_append (made G one) (made G two) ∙ ap₂ (λ a b. a && b) (none_made one) (none_made two) ∙ sym (none_append first second)
  none_made (Hole field) = refl
  none_made (Plain its) = refl
  none_made (Name false field x ctxt role occurs) = refl
  none_made (Name true field x ctxt role occurs) = none_either (G (x, ctxt)).is_spelled_out _ _ refl refl
  none_made (Inside field head opens one) = refl
  none_made (Specifier field head is one) = refl
  none_made (Shorthand field x ctxt role occurs one) = none_either (G (x, ctxt)).is_spelled_out _ _ refl refl

  some_pattern : (c : Change) (x : Text) (ctxt : ℕ) (role : Role) (default : List Item) → is_none default ≡ false → pattern_in_its_place (Some c) x ctxt role default ≡ node 1 h.AssignPat (node 0 h.BindingIdent (h.Ident 0 c.ident.0 c.ident.1 role ∷ []) ++ default)
  some_pattern c x ctxt role [] filled = cc
  some_pattern c x ctxt role (y ∷ ys) filled = refl

  no_pattern : (c : Change) (x : Text) (ctxt : ℕ) (role : Role) (default : List Item) → is_none default ≡ true → pattern_in_its_place (Some c) x ctxt role default ≡ node 1 h.BindingIdent (h.Ident 0 c.ident.0 c.ident.1 role ∷ [])
  no_pattern c x ctxt role [] empty = refl
  no_pattern c x ctxt role (y ∷ ys) empty = cc

  pattern_twice : (new : Ident) (b s : Bool) (x : Text) (ctxt : ℕ) (role : Role) (occurs : is_occurrence role ≡ true) (default : List Item) (one : Part false default) → made G (pattern_part (change new b) x ctxt role occurs default one) ≡ pattern_in_its_place (Some (change (G new).ident s)) x ctxt role (made G one)
  pattern_twice new b s x ctxt role occurs [] one = sym (no_pattern (change (G new).ident s) x ctxt role (made G one) (none_made one))
  pattern_twice new b s x ctxt role occurs (y ∷ ys) one = sym (some_pattern (change (G new).ident s) x ctxt role (made G one) (none_made one))

  -- nothing has no identifiers
  no_names : {o : Bool} {tree : List Item} (one : Part o tree) → is_none tree ≡ true → names one ≡ []
  no_names Nothing empty = refl
  no_names (Joined {first = first} {second = second} one two) empty =
      let parts = and_parts (is_none first) (is_none second) (sym (none_append first second) ∙ empty) in
      ap₂ (λ (xs ys : List Ident). xs ++ ys) (no_names one parts.0) (no_names two parts.1)
  no_names (Hole field) empty = refl
  no_names (Plain its) empty = refl
  no_names (Name o field x ctxt role occurs) empty = cc
  no_names (Inside field head opens one) empty = cc
  no_names (Specifier field head is one) empty = cc
  no_names (Shorthand field x ctxt role occurs one) empty = cc

  pattern_names : (new : Ident) (b : Bool) (x : Text) (ctxt : ℕ) (role : Role) (occurs : is_occurrence role ≡ true) (default : List Item) (one : Part false default) → names (pattern_part (change new b) x ctxt role occurs default one) ≡ new ∷ names one
  pattern_names new b x ctxt role occurs [] one = ap (λ (all : List Ident). new ∷ all) (sym (no_names one refl))
  pattern_names new b x ctxt role occurs (y ∷ ys) one = refl

  -- what is short and stays so does not look at what it was
  short_same : (b : Bool) (c : Change) (field : ℕ) (x y : Text) (m n : ℕ) (role : Role) (default : List Item) → x ≡ y → (if b then node field h.KeyValuePatProp (plain_key x ++ pattern_in_its_place (Some c) x m role default) else node field h.AssignPatProp (node 0 h.BindingIdent (h.Ident 0 c.ident.0 c.ident.1 role ∷ []) ++ default)) ≡ (if b then node field h.KeyValuePatProp (plain_key y ++ pattern_in_its_place (Some c) y n role default) else node field h.AssignPatProp (node 0 h.BindingIdent (h.Ident 0 c.ident.0 c.ident.1 role ∷ []) ++ default))
  short_same b c field x y m n role [] same = ap (λ symbol. if b then node field h.KeyValuePatProp (plain_key symbol ++ node 1 h.BindingIdent (h.Ident 0 c.ident.0 c.ident.1 role ∷ [])) else node field h.AssignPatProp (node 0 h.BindingIdent (h.Ident 0 c.ident.0 c.ident.1 role ∷ []) ++ [])) same
  short_same b c field x y m n role (z ∷ zs) same = ap (λ symbol. if b then node field h.KeyValuePatProp (plain_key symbol ++ node 1 h.AssignPat (node 0 h.BindingIdent (h.Ident 0 c.ident.0 c.ident.1 role ∷ []) ++ z ∷ zs)) else node field h.AssignPatProp (node 0 h.BindingIdent (h.Ident 0 c.ident.0 c.ident.1 role ∷ []) ++ z ∷ zs)) same

  shorthand_twice : (o : Bool) (field : ℕ) (x : Text) (ctxt : ℕ) (role : Role) (occurs : is_occurrence role ≡ true) (new : Ident) (b : Bool) → (b ≡ false → new.0 ≡ x) → (default : List Item) (one : Part false default) → made G (either b {o = o} (Inside field h.KeyValuePatProp refl (Joined (key_part x) (pattern_part (change new b) x ctxt role occurs default one))) (Shorthand field new.0 new.1 role occurs one)) ≡ shorthand_in_its_place (Some (then_change (change new b) (G new))) field x ctxt role (made G one)
  shorthand_twice o field x ctxt role occurs new true keeps default one = ap (λ (pattern : List Item). node field h.KeyValuePatProp (plain_key x ++ pattern)) (pattern_twice new true true x ctxt role occurs default one)
  shorthand_twice o field x ctxt role occurs new false keeps default one = short_same (G new).is_spelled_out (G new) field new.0 x new.1 ctxt role (made G one) (keeps refl)

  shorthand_names : (o : Bool) (field : ℕ) (x : Text) (ctxt : ℕ) (role : Role) (occurs : is_occurrence role ≡ true) (new : Ident) (b : Bool) (default : List Item) (one : Part false default) → names (either b {o = o} (Inside field h.KeyValuePatProp refl (Joined (key_part x) (pattern_part (change new b) x ctxt role occurs default one))) (Shorthand field new.0 new.1 role occurs one)) ≡ new ∷ names one
  shorthand_names o field x ctxt role occurs new true default one = pattern_names new true x ctxt role occurs default one
  shorthand_names o field x ctxt role occurs new false default one = refl

-- The whole.

specified_twice : (F G : Ident → Change) → KeepsSymbols F → {inside : List Item} (one : Specified inside) → specified G (specified_again F one) ≡ specified (both F G) one
specified_twice F G keeps (alone field x ctxt role occurs) = alone_twice G field x ctxt role occurs (F (x, ctxt)).ident (F (x, ctxt)).is_spelled_out (keeps (x, ctxt))
specified_twice F G keeps (named field x ctxt role occurs its) = refl
specified_twice F G keeps (plain its) = refl
specified_twice F G keeps (plains one two) = refl

pub twice : (F G : Ident → Change) → KeepsSymbols F → {o : Bool} {tree : List Item} (one : Part o tree) → made G (again F one) ≡ made (both F G) one
twice F G keeps Nothing = refl
twice F G keeps (Joined one two) = ap₂ (λ (xs ys : List Item). xs ++ ys) (twice F G keeps one) (twice F G keeps two)
twice F G keeps (Hole field) = refl
twice F G keeps (Plain its) = refl
twice F G keeps (Name false field x ctxt role occurs) = refl
twice F G keeps (Name true field x ctxt role occurs) = pair_twice G field x ctxt role occurs (F (x, ctxt)).ident (F (x, ctxt)).is_spelled_out (keeps (x, ctxt))
twice F G keeps (Inside field head opens one) = ap (λ (inside : List Item). node field head inside) (twice F G keeps one)
twice F G keeps (Specifier field head is one) = ap (λ (inside : List Item). node field head inside) (specified_twice F G keeps one)
twice F G keeps {o = o} (Shorthand field x ctxt role occurs one) =
    shorthand_twice G o field x ctxt role occurs (F (x, ctxt)).ident (F (x, ctxt)).is_spelled_out (keeps (x, ctxt)) (made F one) (again F one)
    ∙ ap (λ (default : List Item). shorthand_in_its_place (Some (both F G (x, ctxt))) field x ctxt role default) (twice F G keeps one)

specified_names : (F : Ident → Change) {inside : List Item} (one : Specified inside) → names_specified (specified_again F one) ≡ map (λ ident. (F ident).ident) (names_specified one)
specified_names F (alone field x ctxt role occurs) = alone_names F field x role occurs (F (x, ctxt)).ident (F (x, ctxt)).is_spelled_out
specified_names F (named field x ctxt role occurs its) = refl
specified_names F (plain its) = refl
specified_names F (plains one two) = refl

-- its identifiers are what they became
pub names-again : (F : Ident → Change) {o : Bool} {tree : List Item} (one : Part o tree) → names (again F one) ≡ map (λ ident. (F ident).ident) (names one)
names-again F Nothing = refl
names-again F (Joined one two) = ap₂ (λ (xs ys : List Ident). xs ++ ys) (names-again F one) (names-again F two) ∙ sym (map-append (λ ident. (F ident).ident) (names one) (names two))
names-again F (Hole field) = refl
names-again F (Plain its) = refl
names-again F (Name false field x ctxt role occurs) = refl
names-again F (Name true field x ctxt role occurs) = pair_names F field x role occurs (F (x, ctxt)).ident (F (x, ctxt)).is_spelled_out
names-again F (Inside field head opens one) = names-again F one
names-again F (Specifier field head is one) = specified_names F one
names-again F {o = o} (Shorthand field x ctxt role occurs one) =
    shorthand_names F o field x ctxt role occurs (F (x, ctxt)).ident (F (x, ctxt)).is_spelled_out (made F one) (again F one)
    ∙ ap (λ (rest : List Ident). (F (x, ctxt)).ident ∷ rest) (names-again F one)
