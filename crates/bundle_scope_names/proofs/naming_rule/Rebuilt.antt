-- The nodes around a place, before and after shorthands of patterns were spelled out: the same scopes, at other places,
-- and the same way of declaring.
-- A list that is made anew with changes of its occurrences: the same occurrences, one by one, in scopes that have moved.
-- A list that is made anew has no default export without a name, where there was none. A default declaration is of no
-- object literal and no shorthand of a pattern, which could be spelled out in front of its name.
-- A list that is made anew has plain default declarations, where it had.
-- A tree with other identifiers that tell its bindings apart as before (as keywords are renamed): it is resolved again, and
-- each name denotes by symbol and context what it denoted.
use Rattle.std.proofs.Common.{◌≡◌, ℕ, ◌==◌, ◌&&◌, Bool, true, false, cond, List, [], ◌∷◌, ◌++◌, Option, Some, None, refl, ap, sym, ◌∙◌, subst, ◌<◌, zero, suc, ◌+◌, length, fold, slice_get, bytes_eq, codes, arith, ◌||◌, ◌↔◌, option_map, map, get_or, find}
use Rattle.std.specs.Prelude.{if◌then◌else◌, ⊤, is_some}
use Rattle.std.proofs.lemmas.Bool.{and_left, and_right, false≢true, or_parts}
use Rattle.std.specs.List.{cons_option, AllZip}
use Rattle.std.proofs.lemmas.Option.{none-some, same_Some, slice_get-get_or}
use Rattle.bundle_syntax.specs.declared.kind.VarDeclKind.{VarDeclKind}
use Rattle.bundle_syntax.specs.Item as h
use Rattle.bundle_syntax.specs.Item.{Item, Head}
use Rattle.bundle_syntax.specs.declared.piece.Role.{Role}
use Rattle.bundle_syntax.specs.declared.kind.VarDeclKind.TheVariants as v
use Rattle.bundle_syntax.specs.declared.piece.Role.TheVariants as r
use Rattle.bundle_rules.specs.Places.{Around, in_field, outer_path, Spot, past, start, spot_before, path_to, path_to_option, Occurrence, occurrence_of, occurrences_from, occurrences, occurrence_at}
use Rattle.bundle_rules.specs.Scopes.{Es, ScopeKind, Inner, FunctionName, ClassName, block_kind, is_default, kind_of_scope, scope_at, scopes_around}
use Rattle.bundle_rules.specs.Declarations.{ByLet, ByConst, ByLoop, ByFunction, ByFunctionName, ByClass, ByClassName, is_pattern, heads_loop, way_of_kind, way_of_variable, way_of_declarator, way_in, way_of, is_nameless_default, ByContext, Declared, declared}
use Rattle.bundle_rules.specs.Shorthands.{has_default, is_shorthand_in_pattern, ends_at, is_object, symbol_of}
use Rattle.bundle_rules.specs.Rebuilds.{Change, is_key_spelled_out, change_at, plain_key, key_in_object, pattern_front, new_begin, new_end, spelled_out, new_name, new_occurrence, new_item, rebuilt_from, rebuilt, changes_to}
use Rattle.bundle_rules.proofs.PlacesLemmas.{spot_before-next, occurrences-at, occurrence_at-listed}
use Rattle.bundle_rules.specs.Nodes.{Text}
use Rattle.bundle_rules.specs.Shape.{is_specifier}
use Rattle.bundle_rules.specs.Homes.{is_function}
use Rattle.bundle_rules.specs.Denotes.{Global, denoted_of, denoted_at, IsResolved, SameIdent, DenoteAlike}
use Rattle.bundle_rules.specs.Idents.{Ident, ident_of, idents}
use Rattle.bundle_rules.specs.Renamed.{HasNamesOnly, IsRebuilt}
use Rattle.bundle_scope_names.proofs.Kept.{occurrences-append}
use Rattle.bundle_scope_names.proofs.TreeLemmas.{map-map as map-twice}
use Rattle.bundle_scope_names.proofs.naming_rule.Clash.{moved, all_moved, IsInjective, find-moved, function-stays}
use Rattle.bundle_scope_names.proofs.fit.Keys.{field_twice as in_field-twice}
use Rattle.bundle_scope_names.proofs.naming_rule.Tables.{AreNamed, declarations, declared-named, all-named, all-are, declared-in, IsIn, map-in, origin-of}
use Rattle.bundle_scope_names.proofs.naming_rule.Transfer.{alike-from, Calling, recalled_denoted, Recalls, IsFaithful, IsRecalled, IsKnown, known, denoted-recalled, recalled-one, recalled-global, declarations-recalled}

-- ---- paths

-- the nodes around a place, and those around what stands there afterwards
pub data PathMoved (tree : List Item) (changes : List Change) (move : ℕ → ℕ) : List Around → List Around → Type 0 where
  Outside : PathMoved tree changes move [] []
  -- a node that stays
  Kept : (head : Head) (begins place field : ℕ) {p q : List Around} → place ≡ move begins → (is_shorthand_in_pattern head && is_key_spelled_out tree changes begins) ≡ false → PathMoved tree changes move p q → PathMoved tree changes move (record { head = head; begins = begins; field = field } ∷ p) (record { head = head; begins = place; field = field } ∷ q)
  -- a shorthand of a pattern that is spelled out
  Spelled : (begins field place other : ℕ) {p q : List Around} → is_key_spelled_out tree changes begins ≡ true → has_default tree begins ≡ false → PathMoved tree changes move p q → PathMoved tree changes move (record { head = h.AssignPatProp; begins = begins; field = field } ∷ p) (record { head = h.KeyValuePatProp; begins = place; field = other } ∷ q)
  -- and one with a default value
  WithDefault : (begins field place other inner third : ℕ) {p q : List Around} → is_key_spelled_out tree changes begins ≡ true → has_default tree begins ≡ true → PathMoved tree changes move p q → PathMoved tree changes move (record { head = h.AssignPatProp; begins = begins; field = field } ∷ p) (record { head = h.AssignPat; begins = inner; field = third } ∷ record { head = h.KeyValuePatProp; begins = place; field = other } ∷ q)

module _ (tree : List Item) (changes : List Change) (move : ℕ → ℕ) where
  abbrev Moves : List Around → List Around → Type 0
  Moves p q = PathMoved tree changes move p q

  -- Scopes.

  block_kind-moved : {p q : List Around} → Moves p q → block_kind q ≡ block_kind p
  block_kind-moved Outside = refl
  block_kind-moved (Kept head begins place field e stays m) = refl
  block_kind-moved (Spelled begins field place other e d m) = refl
  block_kind-moved (WithDefault begins field place other inner third e d m) = refl

  is_default-moved : {p q : List Around} → Moves p q → is_default q ≡ is_default p
  is_default-moved Outside = refl
  is_default-moved (Kept head begins place field e stays m) = refl
  is_default-moved (Spelled begins field place other e d m) = refl
  is_default-moved (WithDefault begins field place other inner third e d m) = refl

  kind-moved : (head : Head) (field : ℕ) (p q : List Around) → Moves p q → kind_of_scope head field q ≡ kind_of_scope head field p
  kind-moved h.BlockStmt field p q m = ap (λ k. Some k) (block_kind-moved m)
  kind-moved h.FnExpr field p q m = ap (λ b. cond b None (Some FunctionName)) (is_default-moved m)
  kind-moved h.ClassExpr field p q m = ap (λ b. cond b None (Some ClassName)) (is_default-moved m)
  kind-moved _ field p q m = refl

  pub scopes-moved : {p q : List Around} → Moves p q → scopes_around Es q ≡ all_moved move (scopes_around Es p)
  scopes-moved Outside = refl
  scopes-moved (Kept head begins place field {p = p} {q = q} e stays m) =
      ap (λ k. scope_at place k ++ scopes_around Es q) (kind-moved head field p q m)
      ∙ ap (λ b. scope_at b (kind_of_scope head field p) ++ scopes_around Es q) e
      ∙ by_kind (kind_of_scope head field p) (scopes-moved m)
    where
      by_kind : (k : Option ScopeKind) → scopes_around Es q ≡ all_moved move (scopes_around Es p) → scope_at (move begins) k ++ scopes_around Es q ≡ all_moved move (scope_at begins k ++ scopes_around Es p)
      by_kind None rest = rest
      by_kind (Some k) rest = ap (λ l. moved move (Inner k begins) ∷ l) rest
  scopes-moved (Spelled begins field place other e d m) = scopes-moved m
  scopes-moved (WithDefault begins field place other inner third e d m) = scopes-moved m

  -- Ways.

  heads_loop-moved : {p q : List Around} → Moves p q → heads_loop q ≡ heads_loop p
  heads_loop-moved Outside = refl
  heads_loop-moved (Kept head begins place field e stays m) = refl
  heads_loop-moved (Spelled begins field place other e d m) = refl
  heads_loop-moved (WithDefault begins field place other inner third e d m) = refl

  way_of_kind-moved : (kind : VarDeclKind) {p q : List Around} → Moves p q → way_of_kind kind q ≡ way_of_kind kind p
  way_of_kind-moved v.Var m = refl
  way_of_kind-moved v.Let m = ap (λ b. cond b ByLoop ByLet) (heads_loop-moved m)
  way_of_kind-moved v.Const m = ap (λ b. cond b ByLoop ByConst) (heads_loop-moved m)

  way_of_variable-moved : (head : Head) (p q : List Around) → Moves p q → way_of_variable head q ≡ way_of_variable head p
  way_of_variable-moved (h.VarDecl kind meta) p q m = ap (λ w. Some w) (way_of_kind-moved kind m)
  way_of_variable-moved _ p q m = refl

  way_of_declarator-moved : {p q : List Around} → Moves p q → way_of_declarator q ≡ way_of_declarator p
  way_of_declarator-moved Outside = refl
  way_of_declarator-moved (Kept head begins place field {p = p} {q = q} e stays m) = way_of_variable-moved head p q m
  way_of_declarator-moved (Spelled begins field place other e d m) = refl
  way_of_declarator-moved (WithDefault begins field place other inner third e d m) = refl

  way_in-moved : (head : Head) (p q : List Around) → Moves p q → way_in head q ≡ way_in head p
  way_in-moved h.VarDeclarator p q m = way_of_declarator-moved m
  way_in-moved h.FnExpr p q m = ap (λ b. Some (cond b ByFunction ByFunctionName)) (is_default-moved m)
  way_in-moved h.ClassExpr p q m = ap (λ b. Some (cond b ByClass ByClassName)) (is_default-moved m)
  way_in-moved _ p q m = refl

  pub way-moved : {p q : List Around} → Moves p q → way_of q ≡ way_of p
  way-moved Outside = refl
  way-moved (Kept head begins place field {p = p} {q = q} e stays m) = ap (λ w. cond (is_pattern head) w (way_in head q)) (way-moved m) ∙ ap (cond (is_pattern head) (way_of p)) (way_in-moved head p q m)
  way-moved (Spelled begins field place other e d m) = way-moved m
  way-moved (WithDefault begins field place other inner third e d m) = way-moved m

  -- Fields of the innermost node.

  pub in_field-moved : (field : ℕ) {p q : List Around} → Moves p q → Moves (in_field field p) (in_field field q)
  in_field-moved field Outside = Outside
  in_field-moved field (Kept head begins place old e stays m) = Kept head begins place field e stays m
  in_field-moved field (Spelled begins old place other e d m) = Spelled begins field place field e d m
  in_field-moved field (WithDefault begins old place other inner third e d m) = WithDefault begins field place other inner field e d m

  -- the field that a node gets directly in such nodes
  abbrev pub child_field : ℕ → List Around → ℕ
  child_field field [] = field
  child_field field (node ∷ outer) = if is_shorthand_in_pattern node.head && node.field == 0 && is_key_spelled_out tree changes node.begins then (if has_default tree node.begins then 0 else 1) else node.field

  not_spelled : (a b c : Bool) → (a && c) ≡ false → (a && b && c) ≡ false
  not_spelled true b false e = and_right b false refl
  not_spelled true b true e = absurd cc
  not_spelled false b c e = refl

  pub child_field-moved : (field : ℕ) {p q : List Around} → Moves p q → Moves p (in_field (child_field field p) q)
  child_field-moved field Outside = Outside
  child_field-moved field (Kept head begins place own {p = p} {q = q} e stays m) = subst (λ b. Moves (record { head = head; begins = begins; field = own } ∷ p) (record { head = head; begins = place; field = if b then (if has_default tree begins then 0 else 1) else own } ∷ q)) (sym (not_spelled (is_shorthand_in_pattern head) (own == 0) (is_key_spelled_out tree changes begins) stays)) (Kept head begins place own e stays m)
  child_field-moved field (Spelled begins own place other {p = p} e d m) = Spelled begins own place (child_field field (record { head = h.AssignPatProp; begins = begins; field = own } ∷ p)) e d m
  child_field-moved field (WithDefault begins own place other inner third {p = p} e d m) = WithDefault begins own place other inner (child_field field (record { head = h.AssignPatProp; begins = begins; field = own } ∷ p)) e d m

  -- What is left when the innermost node ends.

  -- how many nodes end
  abbrev pub ends_two : List Around → Bool
  ends_two [] = false
  ends_two (node ∷ outer) = is_shorthand_in_pattern node.head && has_default tree node.begins && is_key_spelled_out tree changes node.begins

  abbrev pub left_by : Bool → List Around → List Around
  left_by two q = if two then outer_path (outer_path q) else outer_path q

  pub outer-moved : {p q : List Around} → Moves p q → Moves (outer_path p) (left_by (ends_two p) q)
  outer-moved Outside = Outside
  outer-moved (Kept head begins place own {p = p} {q = q} e stays m) = subst (λ b. Moves p (left_by b (record { head = head; begins = place; field = own } ∷ q))) (sym (not_spelled (is_shorthand_in_pattern head) (has_default tree begins) (is_key_spelled_out tree changes begins) stays)) m
  outer-moved (Spelled begins own place other {p = p} {q = q} e d m) = subst (λ b. Moves p (left_by b (record { head = h.KeyValuePatProp; begins = place; field = other } ∷ q))) (sym (and_left (has_default tree begins) (is_key_spelled_out tree changes begins) d)) m
  outer-moved (WithDefault begins own place other inner third {p = p} {q = q} e d m) = subst (λ b. Moves p (left_by b (record { head = h.AssignPat; begins = inner; field = third } ∷ record { head = h.KeyValuePatProp; begins = place; field = other } ∷ q))) (sym (and_both (has_default tree begins) (is_key_spelled_out tree changes begins) d e)) m
    where
      and_both : (a b : Bool) → a ≡ true → b ≡ true → (true && a && b) ≡ true
      and_both true true d e = refl
      and_both true false d e = e
      and_both false b d e = absurd cc

-- ---- rebuilt

-- Two occurrences at moved places, whatever their symbols.
pub record HasPlace (move : ℕ → ℕ) (o p : Occurrence) : Type 0 where
  pub role : p.role ≡ o.role
  pub way : way_of p.path ≡ way_of o.path
  pub scopes : scopes_around Es p.path ≡ all_moved move (scopes_around Es o.path)

-- The rebuilding, with the spot in hand.

abbrev pub rebuilt_at : List Item → List Change → Spot → List Item → List Item
rebuilt_at tree changes spot [] = []
rebuilt_at tree changes spot (x ∷ rest) = new_item tree changes spot.place (path_to spot.path x) x ++ rebuilt_at tree changes (past spot x) rest

-- these elements stand in the tree from this place on
abbrev IsBehind : List Item → ℕ → List Item → Type 0
IsBehind tree p rest = (k : ℕ) → slice_get tree (p + k) ≡ slice_get rest k

rebuilt-at : (tree : List Item) (changes : List Change) (p : ℕ) (rest : List Item) → IsBehind tree p rest → (spot_before tree p).place ≡ p → rebuilt_from tree changes p rest ≡ rebuilt_at tree changes (spot_before tree p) rest
rebuilt-at tree changes p [] behind place = refl
rebuilt-at tree changes p (x ∷ rest) behind place =
    let zero_is : p + 0 ≡ p = omega arith in
    let here : slice_get tree p ≡ Some x = ap (slice_get tree) (sym zero_is) ∙ behind 0 in
    let one_is : p + 1 ≡ suc p = omega arith in
    let next : spot_before tree (suc p) ≡ past (spot_before tree p) x = ap (spot_before tree) (sym one_is) ∙ spot_before-next tree p x here in
    let later : (spot_before tree (suc p)).place ≡ suc p = ap (λ (s : Spot). s.place) next ∙ ap (λ n. n + 1) place ∙ one_is in
    ap (λ o. new_item tree changes p (path_to_option (spot_before tree p).path o) x ++ rebuilt_from tree changes (suc p) rest) here
    ∙ ap (λ n. new_item tree changes n (path_to (spot_before tree p).path x) x ++ rebuilt_from tree changes (suc p) rest) (sym place)
    ∙ ap (λ l. new_item tree changes (spot_before tree p).place (path_to (spot_before tree p).path x) x ++ l) (rebuilt-at tree changes (suc p) rest (λ k. let n : suc p + k ≡ p + suc k = omega arith in ap (slice_get tree) n ∙ behind (suc k)) later ∙ ap (λ s. rebuilt_at tree changes s rest) next)

pub rebuilt-start : (tree : List Item) (changes : List Change) → rebuilt tree changes ≡ rebuilt_at tree changes start tree
rebuilt-start tree changes = rebuilt-at tree changes 0 tree (λ k. let n : 0 + k ≡ k = omega arith in ap (slice_get tree) n) refl

-- Where the elements go.

abbrev pub offset : List Item → List Change → Spot → List Item → ℕ → ℕ
offset tree changes spot [] k = k
offset tree changes spot (x ∷ rest) zero = 0
offset tree changes spot (x ∷ rest) (suc k) = length (new_item tree changes spot.place (path_to spot.path x) x) + offset tree changes (past spot x) rest k

abbrev pub place_in : List Item → List Change → ℕ → ℕ
place_in tree changes p = offset tree changes start tree p

-- something stands in the place of each element
pub data IsFilled : List Item → Type 0 where
  Filled : (x : Item) (rest : List Item) → IsFilled (x ∷ rest)

filled-if : (b : Bool) (one two : List Item) → IsFilled one → IsFilled two → IsFilled (if b then one else two)
filled-if true one two a b = a
filled-if false one two a b = b

begin-filled : (tree : List Item) (changes : List Change) (place field : ℕ) (around : List Around) (head : Head) → IsFilled (new_begin tree changes place field around head)
begin-filled tree changes place field around h.AssignPatProp = filled-if (is_key_spelled_out tree changes place) _ _ (Filled _ _) (Filled _ _)
begin-filled tree changes place field [] _ = Filled _ _
begin-filled tree changes place field (node ∷ outer) head = filled-if (is_shorthand_in_pattern node.head && node.field == 0 && is_key_spelled_out tree changes node.begins) _ _ (Filled _ _) (Filled _ _)

end-filled : (tree : List Item) (changes : List Change) (around : List Around) → IsFilled (new_end tree changes around)
end-filled tree changes [] = Filled _ _
end-filled tree changes (node ∷ outer) = filled-if (is_shorthand_in_pattern node.head && has_default tree node.begins && is_key_spelled_out tree changes node.begins) _ _ (Filled _ _) (Filled _ _)

occurrence-filled : (field : ℕ) (around : List Around) (is_last : Bool) (x : Text) (ctxt : ℕ) (role : Role) (change : Option Change) → IsFilled (new_occurrence field around is_last x ctxt role change)
occurrence-filled field around is_last x ctxt role None = Filled _ _
occurrence-filled field [] is_last x ctxt role (Some change) = Filled _ _
occurrence-filled field (node ∷ outer) is_last x ctxt role (Some change) = filled-if change.is_spelled_out _ _ (filled-if (is_object node.head) _ _ (Filled _ _) (filled-if (is_specifier node.head && is_last) _ _ (Filled _ _) (Filled _ _))) (Filled _ _)

pub item-filled : (tree : List Item) (changes : List Change) (place : ℕ) (around : List Around) (x : Item) → IsFilled (new_item tree changes place around x)
item-filled tree changes place around (h.Open field head) = begin-filled tree changes place field around head
item-filled tree changes place around (h.Ident field x ctxt r.Word) = Filled _ _
item-filled tree changes place around (h.Ident field x ctxt r.Binding) = occurrence-filled field around _ x ctxt r.Binding (change_at tree changes place)
item-filled tree changes place around (h.Ident field x ctxt r.Reference) = occurrence-filled field around _ x ctxt r.Reference (change_at tree changes place)
item-filled tree changes place around (h.Hole field) = Filled _ _
item-filled tree changes place around h.Close = end-filled tree changes around

pub filled-length : (l : List Item) → IsFilled l → 0 < length l
filled-length _ (Filled x rest) = omega arith

offset-injective : (tree : List Item) (changes : List Change) (spot : Spot) (rest : List Item) (a b : ℕ) → offset tree changes spot rest a ≡ offset tree changes spot rest b → a ≡ b
offset-injective tree changes spot [] a b e = e
offset-injective tree changes spot (x ∷ rest) zero zero e = refl
offset-injective tree changes spot (x ∷ rest) zero (suc b) e = let some = filled-length _ (item-filled tree changes spot.place (path_to spot.path x) x) in absurd (omega (arith, e, some))
offset-injective tree changes spot (x ∷ rest) (suc a) zero e = let some = filled-length _ (item-filled tree changes spot.place (path_to spot.path x) x) in absurd (omega (arith, e, some))
offset-injective tree changes spot (x ∷ rest) (suc a) (suc b) e = let same : offset tree changes (past spot x) rest a ≡ offset tree changes (past spot x) rest b = omega (arith, e) in ap suc (offset-injective tree changes (past spot x) rest a b same)

pub place-injective : (tree : List Item) (changes : List Change) → IsInjective (place_in tree changes)
place-injective tree changes a b e = offset-injective tree changes start tree a b e

-- Spots and occurrences of lists in turn.

pub fold-place : (s : Spot) (l : List Item) → (fold past s l).place ≡ s.place + length l
fold-place s [] = omega arith
fold-place s (x ∷ l) = let rest = fold-place (past s x) l in omega (arith, rest)

-- What one element becomes.
module _ (tree : List Item) (changes : List Change) (move : ℕ → ℕ) where
  abbrev MovesRebuilt : List Around → List Around → Type 0
  MovesRebuilt p q = PathMoved tree changes move p q

  -- paths whose fields do not matter yet
  abbrev pub Aligned : List Around → List Around → Type 0
  Aligned p q = (field : ℕ) → MovesRebuilt (in_field field p) (in_field field q)

  abbrev ZipOption : Option Occurrence → List Occurrence → Type 0
  ZipOption None ps = ps ≡ []
  ZipOption (Some o) ps = (p : Occurrence) × (ps ≡ p ∷ []) × HasPlace move o p

  -- behind an element and what it becomes, the paths are alike, and its occurrence is one there
  pub record Becomes (spot other : Spot) (x : Item) (made : List Item) : Type 0 where
    pub aligned : Aligned (past spot x).path (fold past other made).path
    pub zipped : ZipOption (occurrence_of spot x) (occurrences_from other made)

  -- the beginning of a node that is no shorthand of a pattern
  pub begin-other : (place field : ℕ) (path : List Around) (head : Head) → is_shorthand_in_pattern head ≡ false → new_begin tree changes place field (in_field field path) head ≡ h.Open (child_field tree changes move field (in_field field path)) head ∷ []
  begin-other place field path h.AssignPatProp e = absurd (false≢true (sym e))
  begin-other place field [] _ e = refl
  begin-other place field (node ∷ outer) head e = by_test (is_shorthand_in_pattern node.head && field == 0 && is_key_spelled_out tree changes node.begins)
    where
      by_test : (b : Bool) → (if b then h.Open (if has_default tree node.begins then 0 else 1) head ∷ [] else h.Open field head ∷ []) ≡ h.Open (if b then (if has_default tree node.begins then 0 else 1) else field) head ∷ []
      by_test true = refl
      by_test false = refl

  becomes-other : (spot other : Spot) (field : ℕ) (head : Head) → is_shorthand_in_pattern head ≡ false → Aligned spot.path other.path → other.place ≡ move spot.place → Becomes spot other (h.Open field head) (new_item tree changes spot.place (path_to spot.path (h.Open field head)) (h.Open field head))
  becomes-other spot other field head e at place = subst (Becomes spot other (h.Open field head)) (sym (begin-other spot.place field spot.path head e)) (record {
    aligned = λ f. Kept head spot.place other.place f place (ap (λ b. b && is_key_spelled_out tree changes spot.place) e) (subst (MovesRebuilt (in_field field spot.path)) (in_field-twice (child_field tree changes move field (in_field field spot.path)) field other.path) (child_field-moved tree changes move field (at field)));
    zipped = refl;
  })

  becomes-shorthand : (spot other : Spot) (field : ℕ) → Aligned spot.path other.path → other.place ≡ move spot.place → (b : Bool) → is_key_spelled_out tree changes spot.place ≡ b → Becomes spot other (h.Open field h.AssignPatProp) (if b then pattern_front field (symbol_of (slice_get tree (spot.place + 2))) (has_default tree spot.place) else h.Open field h.AssignPatProp ∷ [])
  becomes-shorthand spot other field at place false e = record { aligned = λ f. Kept h.AssignPatProp spot.place other.place f place e (at field); zipped = refl }
  becomes-shorthand spot other field at place true e = by_default (has_default tree spot.place) refl
    where
      by_default : (d : Bool) → has_default tree spot.place ≡ d → Becomes spot other (h.Open field h.AssignPatProp) (pattern_front field (symbol_of (slice_get tree (spot.place + 2))) d)
      by_default false d = record { aligned = λ f. Spelled spot.place f other.place f e d (at field); zipped = refl }
      by_default true d = record { aligned = λ f. WithDefault spot.place f other.place 1 (other.place + 1 + 1 + 1) f e d (at field); zipped = refl }

  -- the end of a node
  end-field : (field : ℕ) (path : List Around) → new_end tree changes path ≡ (if ends_two tree changes move (in_field field path) then h.Close ∷ h.Close ∷ [] else h.Close ∷ [])
  end-field field [] = refl
  end-field field (node ∷ outer) = refl

  outer-field : (field : ℕ) (path : List Around) → outer_path (in_field field path) ≡ outer_path path
  outer-field field [] = refl
  outer-field field (node ∷ outer) = refl

  becomes-end : (spot other : Spot) → Aligned spot.path other.path → Becomes spot other h.Close (new_end tree changes spot.path)
  becomes-end spot other at = subst (Becomes spot other h.Close) (sym (end-field 0 spot.path)) (by_ends (ends_two tree changes move (in_field 0 spot.path)) (outer-moved tree changes move (at 0)))
    where
      by_ends : (b : Bool) → MovesRebuilt (outer_path (in_field 0 spot.path)) (left_by tree changes move b (in_field 0 other.path)) → Becomes spot other h.Close (if b then h.Close ∷ h.Close ∷ [] else h.Close ∷ [])
      by_ends true m = record { aligned = λ f. in_field-moved tree changes move f (subst (λ p. MovesRebuilt p (outer_path (outer_path other.path))) (outer-field 0 spot.path) (subst (λ q. MovesRebuilt (outer_path (in_field 0 spot.path)) (outer_path q)) (outer-field 0 other.path) m)); zipped = refl }
      by_ends false m = record { aligned = λ f. in_field-moved tree changes move f (subst (λ p. MovesRebuilt p (outer_path other.path)) (outer-field 0 spot.path) (subst (MovesRebuilt (outer_path (in_field 0 spot.path))) (outer-field 0 other.path) m)); zipped = refl }

  -- an occurrence
  abbrev is_occurrence : Role → Bool
  is_occurrence r.Word = false
  is_occurrence _ = true

  becomes-name : (spot other : Spot) (field : ℕ) (x y : Text) (c e : ℕ) (role : Role) → is_occurrence role ≡ true → Aligned spot.path other.path → Becomes spot other (h.Ident field x c role) (h.Ident field y e role ∷ [])
  becomes-name spot other field x y c e r.Word occurs at = absurd cc
  becomes-name spot other field x y c e r.Binding occurs at = record { aligned = at; zipped = (record { place = other.place; sym = y; ctxt = e; role = r.Binding; path = in_field field other.path }, refl, record { role = refl; way = way-moved tree changes move (at field); scopes = scopes-moved tree changes move (at field) }) }
  becomes-name spot other field x y c e r.Reference occurs at = record { aligned = at; zipped = (record { place = other.place; sym = y; ctxt = e; role = r.Reference; path = in_field field other.path }, refl, record { role = refl; way = way-moved tree changes move (at field); scopes = scopes-moved tree changes move (at field) }) }

  -- a specifier of one name
  becomes-specifier : (spot other : Spot) (field : ℕ) (x y : Text) (c e : ℕ) (role : Role) → is_occurrence role ≡ true → Aligned spot.path other.path → Becomes spot other (h.Ident field x c role) (h.Ident field y e role ∷ h.Ident 1 x 0 r.Word ∷ [])
  becomes-specifier spot other field x y c e r.Word occurs at = absurd cc
  becomes-specifier spot other field x y c e r.Binding occurs at = record { aligned = at; zipped = (record { place = other.place; sym = y; ctxt = e; role = r.Binding; path = in_field field other.path }, refl, record { role = refl; way = way-moved tree changes move (at field); scopes = scopes-moved tree changes move (at field) }) }
  becomes-specifier spot other field x y c e r.Reference occurs at = record { aligned = at; zipped = (record { place = other.place; sym = y; ctxt = e; role = r.Reference; path = in_field field other.path }, refl, record { role = refl; way = way-moved tree changes move (at field); scopes = scopes-moved tree changes move (at field) }) }

  -- a shorthand of an object literal: nothing is declared right there
  object-way : (head : Head) (begins field : ℕ) (outer : List Around) → is_object head ≡ true → way_of (record { head = head; begins = begins; field = field } ∷ outer) ≡ None
  object-way h.ObjectLit begins field outer e = refl
  object-way _ begins field outer e = absurd (false≢true e)

  becomes-pair : (spot other : Spot) (field : ℕ) (x y : Text) (c e : ℕ) (role : Role) (node : Around) (outer : List Around) → is_occurrence role ≡ true → Aligned spot.path other.path → spot.path ≡ node ∷ outer → is_object node.head ≡ true → Becomes spot other (h.Ident field x c role) (h.Open field h.KeyValueProp ∷ (key_in_object x ++ h.Ident 1 y e role ∷ h.Close ∷ []))
  becomes-pair spot other field x y c e role node outer occurs at path is = by_key (bytes_eq x (codes "__proto__")) role occurs
    where
      aligned_behind : Aligned spot.path (in_field field other.path)
      aligned_behind f = subst (MovesRebuilt (in_field f spot.path)) (sym (in_field-twice f field other.path)) (at f)

      way_before : way_of (in_field field spot.path) ≡ None
      way_before = ap (λ p. way_of (in_field field p)) path ∙ object-way node.head node.begins field outer is

      by_key : (b : Bool) (role : Role) → is_occurrence role ≡ true → Becomes spot other (h.Ident field x c role) (h.Open field h.KeyValueProp ∷ ((if b then h.Open 0 h.ComputedPropName ∷ h.Open 0 (h.Str x None) ∷ h.Close ∷ h.Close ∷ [] else plain_key x) ++ h.Ident 1 y e role ∷ h.Close ∷ []))
      by_key b r.Word occurs = absurd cc
      by_key true r.Binding occurs = record { aligned = aligned_behind; zipped = (record { place = other.place + 1 + 1 + 1 + 1 + 1; sym = y; ctxt = e; role = r.Binding; path = record { head = h.KeyValueProp; begins = other.place; field = 1 } ∷ in_field field other.path }, refl, record { role = refl; way = sym way_before; scopes = scopes-moved tree changes move (at field) }) }
      by_key true r.Reference occurs = record { aligned = aligned_behind; zipped = (record { place = other.place + 1 + 1 + 1 + 1 + 1; sym = y; ctxt = e; role = r.Reference; path = record { head = h.KeyValueProp; begins = other.place; field = 1 } ∷ in_field field other.path }, refl, record { role = refl; way = sym way_before; scopes = scopes-moved tree changes move (at field) }) }
      by_key false r.Binding occurs = record { aligned = aligned_behind; zipped = (record { place = other.place + 1 + 1 + 1; sym = y; ctxt = e; role = r.Binding; path = record { head = h.KeyValueProp; begins = other.place; field = 1 } ∷ in_field field other.path }, refl, record { role = refl; way = sym way_before; scopes = scopes-moved tree changes move (at field) }) }
      by_key false r.Reference occurs = record { aligned = aligned_behind; zipped = (record { place = other.place + 1 + 1 + 1; sym = y; ctxt = e; role = r.Reference; path = record { head = h.KeyValueProp; begins = other.place; field = 1 } ∷ in_field field other.path }, refl, record { role = refl; way = sym way_before; scopes = scopes-moved tree changes move (at field) }) }

  becomes-occurrence : (spot other : Spot) (field : ℕ) (is_last : Bool) (x : Text) (c : ℕ) (role : Role) (change : Option Change) → is_occurrence role ≡ true → Aligned spot.path other.path → Becomes spot other (h.Ident field x c role) (new_occurrence field (in_field field spot.path) is_last x c role change)
  becomes-occurrence spot other field is_last x c role None occurs at = becomes-name spot other field x x c c role occurs at
  becomes-occurrence spot other field is_last x c role (Some change) occurs at = subst (λ p. Becomes spot other (h.Ident field x c role) (new_name field (in_field field p) is_last x role change)) refl (by_path spot.path refl)
    where
      by_object : (node : Around) (outer : List Around) → spot.path ≡ node ∷ outer → (b : Bool) → is_object node.head ≡ b → (s : Bool) → Becomes spot other (h.Ident field x c role) (if b then h.Open field h.KeyValueProp ∷ (key_in_object x ++ h.Ident 1 change.ident.0 change.ident.1 role ∷ h.Close ∷ []) else (if s then h.Ident field change.ident.0 change.ident.1 role ∷ h.Ident 1 x 0 r.Word ∷ [] else h.Ident field change.ident.0 change.ident.1 role ∷ []))
      by_object node outer path true is s = becomes-pair spot other field x change.ident.0 c change.ident.1 role node outer occurs at path is
      by_object node outer path false is true = becomes-specifier spot other field x change.ident.0 c change.ident.1 role occurs at
      by_object node outer path false is false = becomes-name spot other field x change.ident.0 c change.ident.1 role occurs at

      by_spelled : (node : Around) (outer : List Around) → spot.path ≡ node ∷ outer → (b : Bool) → Becomes spot other (h.Ident field x c role) (if b then spelled_out field node.head is_last x role change.ident else h.Ident field change.ident.0 change.ident.1 role ∷ [])
      by_spelled node outer path true = by_object node outer path (is_object node.head) refl (is_specifier node.head && is_last)
      by_spelled node outer path false = becomes-name spot other field x change.ident.0 c change.ident.1 role occurs at

      by_path : (p : List Around) → spot.path ≡ p → Becomes spot other (h.Ident field x c role) (new_name field (in_field field p) is_last x role change)
      by_path [] path = becomes-name spot other field x change.ident.0 c change.ident.1 role occurs at
      by_path (node ∷ outer) path = by_spelled node outer path change.is_spelled_out

  pub becomes-item : (spot other : Spot) (x : Item) → Aligned spot.path other.path → other.place ≡ move spot.place → Becomes spot other x (new_item tree changes spot.place (path_to spot.path x) x)
  becomes-item spot other (h.Open field h.AssignPatProp) at place = becomes-shorthand spot other field at place (is_key_spelled_out tree changes spot.place) refl
  becomes-item spot other (h.Open field head) at place = becomes-other spot other field head refl at place
  becomes-item spot other (h.Ident field x c r.Word) at place = record { aligned = at; zipped = refl }
  becomes-item spot other (h.Ident field x c r.Binding) at place = becomes-occurrence spot other field (ends_at (slice_get tree (suc spot.place))) x c r.Binding (change_at tree changes spot.place) refl at
  becomes-item spot other (h.Ident field x c r.Reference) at place = becomes-occurrence spot other field (ends_at (slice_get tree (suc spot.place))) x c r.Reference (change_at tree changes spot.place) refl at
  becomes-item spot other (h.Hole field) at place = record { aligned = at; zipped = refl }
  becomes-item spot other h.Close at place = becomes-end spot other at

  zip-next : (first : Option Occurrence) (made : List Occurrence) (os ps : List Occurrence) → ZipOption first made → AllZip (HasPlace move) os ps → AllZip (HasPlace move) (cons_option first os) (made ++ ps)
  zip-next None made os ps none rest = subst (λ l. AllZip (HasPlace move) os (l ++ ps)) (sym none) rest
  zip-next (Some o) made os ps one rest = subst (λ l. AllZip (HasPlace move) (o ∷ os) (l ++ ps)) (sym one.1) (one.2, rest)

  -- the elements from a spot on
  pub zipped-from : (rest : List Item) (spot other : Spot) → Aligned spot.path other.path → ((k : ℕ) → move (spot.place + k) ≡ other.place + offset tree changes spot rest k) → AllZip (HasPlace move) (occurrences_from spot rest) (occurrences_from other (rebuilt_at tree changes spot rest))
  zipped-from [] spot other at placed = tt
  zipped-from (x ∷ rest) spot other at placed =
      let made : List Item = new_item tree changes spot.place (path_to spot.path x) x in
      let zero_is : spot.place + 0 ≡ spot.place = omega arith in
      let placed_here : move spot.place ≡ other.place + 0 = ap move (sym zero_is) ∙ placed 0 in
      let here : other.place ≡ move spot.place = omega (arith, placed_here) in
      let becomes = becomes-item spot other x at here in
      let behind = fold-place other made in
      let later = zipped-from rest (past spot x) (fold past other made) becomes.aligned (λ k.
      let n : spot.place + 1 + k ≡ spot.place + suc k = omega arith in
      let moves : move (spot.place + 1 + k) ≡ other.place + (length made + offset tree changes (past spot x) rest k) = ap move n ∙ placed (suc k) in
      omega (arith, moves, behind)) in
      subst (AllZip (HasPlace move) (occurrences_from spot (x ∷ rest))) (sym (occurrences-append other made (rebuilt_at tree changes (past spot x) rest))) (zip-next (occurrence_of spot x) (occurrences_from other made) (occurrences_from (past spot x) rest) (occurrences_from (fold past other made) (rebuilt_at tree changes (past spot x) rest)) becomes.zipped later)

-- the occurrences of a list that is made anew
pub rebuilt-zipped : (tree : List Item) (changes : List Change) → AllZip (HasPlace (place_in tree changes)) (occurrences tree) (occurrences (rebuilt tree changes))
rebuilt-zipped tree changes = subst (λ l. AllZip (HasPlace (place_in tree changes)) (occurrences tree) (occurrences l)) (sym (rebuilt-start tree changes)) (zipped-from tree changes (place_in tree changes) tree start start (λ f. Outside) (λ k. let n : 0 + k ≡ k = omega arith in let m : 0 + place_in tree changes k ≡ place_in tree changes k = omega arith in ap (place_in tree changes) n ∙ sym m))

-- ---- named

-- whether a default declaration is of a node in which names may be spelled out
abbrev pub spells_default : Item → List Item → Bool
spells_default (h.Open field h.ExportDefaultDecl) (h.Open inner head ∷ rest) = is_shorthand_in_pattern head || is_object head
spells_default _ rest = false

-- no default declaration is
abbrev pub ArePlain : List Item → Type 0
ArePlain [] = ⊤
ArePlain (item ∷ rest) = (spells_default item rest ≡ false) × ArePlain rest

-- these elements begin with an identifier
pub data Starts : List Item → Type 0 where
  StartsWith : (field : ℕ) (x : Text) (c : ℕ) (role : Role) (rest : List Item) → Starts (h.Ident field x c role ∷ rest)

starts-named : (field inner : ℕ) (head : Head) (l more : List Item) → Starts l → is_nameless_default (h.Open field h.ExportDefaultDecl) (h.Open inner head ∷ (l ++ more)) ≡ false
starts-named field inner head _ more (StartsWith f x c role rest) = refl

starts-if : (b : Bool) (one two : List Item) → Starts one → Starts two → Starts (if b then one else two)
starts-if true one two a b = a
starts-if false one two a b = b

pub occurrence-starts : (field : ℕ) (node : Around) (outer : List Around) (is_last : Bool) (x : Text) (c : ℕ) (role : Role) (change : Option Change) → is_object node.head ≡ false → Starts (new_occurrence field (node ∷ outer) is_last x c role change)
occurrence-starts field node outer is_last x c role None e = StartsWith _ _ _ _ _
occurrence-starts field node outer is_last x c role (Some change) e = starts-if change.is_spelled_out _ _ (subst (λ b. Starts (if b then h.Open field h.KeyValueProp ∷ (key_in_object x ++ h.Ident 1 change.ident.0 change.ident.1 role ∷ h.Close ∷ []) else (if is_specifier node.head && is_last then h.Ident field change.ident.0 change.ident.1 role ∷ h.Ident 1 x 0 r.Word ∷ [] else h.Ident field change.ident.0 change.ident.1 role ∷ []))) (sym e) (starts-if (is_specifier node.head && is_last) _ _ (StartsWith _ _ _ _ _) (StartsWith _ _ _ _ _))) (StartsWith _ _ _ _ _)

-- elements of which none is a default export
module _ (rest : List Item) (named : AreNamed rest) where
  front-named : (field : ℕ) (x : Text) (d : Bool) → AreNamed (pattern_front field x d ++ rest)
  front-named field x true = (refl, (refl, (refl, (refl, named))))
  front-named field x false = (refl, (refl, (refl, named)))

  if-named : (b : Bool) (one two : List Item) → AreNamed (one ++ rest) → AreNamed (two ++ rest) → AreNamed ((if b then one else two) ++ rest)
  if-named true one two a b = a
  if-named false one two a b = b

  pair-named : (b : Bool) (field : ℕ) (x y : Text) (e : ℕ) (role : Role) → AreNamed ((h.Open field h.KeyValueProp ∷ ((if b then h.Open 0 h.ComputedPropName ∷ h.Open 0 (h.Str x None) ∷ h.Close ∷ h.Close ∷ [] else plain_key x) ++ h.Ident 1 y e role ∷ h.Close ∷ [])) ++ rest)
  pair-named true field x y e role = (refl, (refl, (refl, (refl, (refl, (refl, (refl, named)))))))
  pair-named false field x y e role = (refl, (refl, (refl, (refl, (refl, named)))))

  occurrence-named : (field : ℕ) (around : List Around) (is_last : Bool) (x : Text) (c : ℕ) (role : Role) (change : Option Change) → AreNamed (new_occurrence field around is_last x c role change ++ rest)
  occurrence-named field around is_last x c role None = (refl, named)
  occurrence-named field [] is_last x c role (Some change) = (refl, named)
  occurrence-named field (node ∷ outer) is_last x c role (Some change) =
      if-named change.is_spelled_out (spelled_out field node.head is_last x role change.ident) (h.Ident field change.ident.0 change.ident.1 role ∷ [])
      (if-named (is_object node.head) (h.Open field h.KeyValueProp ∷ (key_in_object x ++ h.Ident 1 change.ident.0 change.ident.1 role ∷ h.Close ∷ [])) (if is_specifier node.head && is_last then h.Ident field change.ident.0 change.ident.1 role ∷ h.Ident 1 x 0 r.Word ∷ [] else h.Ident field change.ident.0 change.ident.1 role ∷ [])
      (pair-named (bytes_eq x (codes "__proto__")) field x change.ident.0 change.ident.1 role)
      (if-named (is_specifier node.head && is_last) (h.Ident field change.ident.0 change.ident.1 role ∷ h.Ident 1 x 0 r.Word ∷ []) (h.Ident field change.ident.0 change.ident.1 role ∷ []) (refl, (refl, named)) (refl, named)))
      (refl, named)

  end-named : (tree : List Item) (changes : List Change) (around : List Around) → AreNamed (new_end tree changes around ++ rest)
  end-named tree changes [] = (refl, named)
  end-named tree changes (node ∷ outer) = if-named (is_shorthand_in_pattern node.head && has_default tree node.begins && is_key_spelled_out tree changes node.begins) (h.Close ∷ h.Close ∷ []) (h.Close ∷ []) (refl, (refl, named)) (refl, named)

module _ (tree : List Item) (changes : List Change) where
  -- a default declaration keeps its name
  decl-named : (spot : Spot) (field f : ℕ) (rest : List Item) → is_nameless_default (h.Open field h.ExportDefaultDecl) rest ≡ false → spells_default (h.Open field h.ExportDefaultDecl) rest ≡ false → is_nameless_default (h.Open f h.ExportDefaultDecl) (rebuilt_at tree changes (past spot (h.Open field h.ExportDefaultDecl)) rest) ≡ false
  decl-named spot field f (h.Open inner head ∷ h.Ident first x c role ∷ rest) named plain =
      let parts = or_parts (is_shorthand_in_pattern head) (is_object head) plain in
      let behind : Spot = past spot (h.Open field h.ExportDefaultDecl) in
      ap (λ l. is_nameless_default (h.Open f h.ExportDefaultDecl) (l ++ rebuilt_at tree changes (past behind (h.Open inner head)) (h.Ident first x c role ∷ rest))) (begin-other tree changes (λ n. n) behind.place inner behind.path head parts.0)
      ∙ starts-named f (child_field tree changes (λ n. n) inner (in_field inner behind.path)) head (new_item tree changes (spot.place + 1 + 1) (record { head = head; begins = spot.place + 1; field = first } ∷ in_field inner behind.path) (h.Ident first x c role)) (rebuilt_at tree changes (past (past behind (h.Open inner head)) (h.Ident first x c role)) rest) (by_role role parts.1)
    where
      by_role : (role : Role) → is_object head ≡ false → Starts (new_item tree changes (spot.place + 1 + 1) (record { head = head; begins = spot.place + 1; field = first } ∷ in_field inner (past spot (h.Open field h.ExportDefaultDecl)).path) (h.Ident first x c role))
      by_role r.Word e = StartsWith _ _ _ _ _
      by_role r.Binding e = occurrence-starts first (record { head = head; begins = spot.place + 1; field = first }) (in_field inner (past spot (h.Open field h.ExportDefaultDecl)).path) (ends_at (slice_get tree (suc (spot.place + 1 + 1)))) x c r.Binding (change_at tree changes (spot.place + 1 + 1)) e
      by_role r.Reference e = occurrence-starts first (record { head = head; begins = spot.place + 1; field = first }) (in_field inner (past spot (h.Open field h.ExportDefaultDecl)).path) (ends_at (slice_get tree (suc (spot.place + 1 + 1)))) x c r.Reference (change_at tree changes (spot.place + 1 + 1)) e
  decl-named spot field f (h.Open inner head ∷ h.Open a b ∷ rest) named plain = absurd (false≢true (sym named))
  decl-named spot field f (h.Open inner head ∷ h.Hole a ∷ rest) named plain = absurd (false≢true (sym named))
  decl-named spot field f (h.Open inner head ∷ h.Close ∷ rest) named plain = absurd (false≢true (sym named))
  decl-named spot field f (h.Open inner head ∷ []) named plain = absurd (false≢true (sym named))
  decl-named spot field f (h.Ident a b c d ∷ rest) named plain = absurd (false≢true (sym named))
  decl-named spot field f (h.Hole a ∷ rest) named plain = absurd (false≢true (sym named))
  decl-named spot field f (h.Close ∷ rest) named plain = absurd (false≢true (sym named))
  decl-named spot field f [] named plain = absurd (false≢true (sym named))

  begin-named : (spot : Spot) (field f : ℕ) (head : Head) (rest : List Item) → is_nameless_default (h.Open field head) rest ≡ false → spells_default (h.Open field head) rest ≡ false → is_nameless_default (h.Open f head) (rebuilt_at tree changes (past spot (h.Open field head)) rest) ≡ false
  begin-named spot field f h.ExportDefaultDecl rest named plain = decl-named spot field f rest named plain
  begin-named spot field f h.ExportDefaultExpr rest named plain = absurd (false≢true (sym named))
  begin-named spot field f _ rest named plain = refl

  other-named : (spot : Spot) (field : ℕ) (head : Head) (rest : List Item) → is_shorthand_in_pattern head ≡ false → is_nameless_default (h.Open field head) rest ≡ false → spells_default (h.Open field head) rest ≡ false → AreNamed (rebuilt_at tree changes (past spot (h.Open field head)) rest) → AreNamed (new_begin tree changes spot.place field (in_field field spot.path) head ++ rebuilt_at tree changes (past spot (h.Open field head)) rest)
  other-named spot field head rest e named plain later = subst (λ l. AreNamed (l ++ rebuilt_at tree changes (past spot (h.Open field head)) rest)) (sym (begin-other tree changes (λ n. n) spot.place field spot.path head e)) (begin-named spot field (child_field tree changes (λ n. n) field (in_field field spot.path)) head rest named plain, later)

  named-item : (spot : Spot) (x : Item) (rest : List Item) → is_nameless_default x rest ≡ false → spells_default x rest ≡ false → AreNamed (rebuilt_at tree changes (past spot x) rest) → AreNamed (new_item tree changes spot.place (path_to spot.path x) x ++ rebuilt_at tree changes (past spot x) rest)
  named-item spot (h.Open field h.AssignPatProp) rest named plain later = if-named (rebuilt_at tree changes (past spot (h.Open field h.AssignPatProp)) rest) later (is_key_spelled_out tree changes spot.place) (pattern_front field (symbol_of (slice_get tree (spot.place + 2))) (has_default tree spot.place)) (h.Open field h.AssignPatProp ∷ []) (front-named (rebuilt_at tree changes (past spot (h.Open field h.AssignPatProp)) rest) later field (symbol_of (slice_get tree (spot.place + 2))) (has_default tree spot.place)) (refl, later)
  named-item spot (h.Open field head) rest named plain later = other-named spot field head rest refl named plain later
  named-item spot (h.Ident field x c r.Word) rest named plain later = (refl, later)
  named-item spot (h.Ident field x c r.Binding) rest named plain later = occurrence-named (rebuilt_at tree changes (past spot (h.Ident field x c r.Binding)) rest) later field (in_field field spot.path) (ends_at (slice_get tree (suc spot.place))) x c r.Binding (change_at tree changes spot.place)
  named-item spot (h.Ident field x c r.Reference) rest named plain later = occurrence-named (rebuilt_at tree changes (past spot (h.Ident field x c r.Reference)) rest) later field (in_field field spot.path) (ends_at (slice_get tree (suc spot.place))) x c r.Reference (change_at tree changes spot.place)
  named-item spot (h.Hole field) rest named plain later = (refl, later)
  named-item spot h.Close rest named plain later = end-named (rebuilt_at tree changes (past spot h.Close) rest) later tree changes spot.path

  named-at : (spot : Spot) (rest : List Item) → AreNamed rest → ArePlain rest → AreNamed (rebuilt_at tree changes spot rest)
  named-at spot [] named plain = tt
  named-at spot (x ∷ rest) named plain = named-item spot x rest named.0 plain.0 (named-at (past spot x) rest named.1 plain.1)

pub rebuilt-named : (tree : List Item) (changes : List Change) → AreNamed tree → ArePlain tree → AreNamed (rebuilt tree changes)
rebuilt-named tree changes named plain = subst AreNamed (sym (rebuilt-start tree changes)) (named-at tree changes start tree named plain)

-- ---- plain

-- elements that begin with what can follow a default declaration
data Follows : List Item → Type 0 where
  Named : (field : ℕ) (x : Text) (c : ℕ) (role : Role) (rest : List Item) → Follows (h.Ident field x c role ∷ rest)
  Empty : (field : ℕ) (rest : List Item) → Follows (h.Hole field ∷ rest)
  Ended : (rest : List Item) → Follows (h.Close ∷ rest)
  Begun : (field : ℕ) (head : Head) (rest : List Item) → (is_shorthand_in_pattern head || is_object head) ≡ false → Follows (h.Open field head ∷ rest)

follows-plain : (field : ℕ) (l more : List Item) → Follows l → spells_default (h.Open field h.ExportDefaultDecl) (l ++ more) ≡ false
follows-plain field _ more (Named f x c role rest) = refl
follows-plain field _ more (Empty f rest) = refl
follows-plain field _ more (Ended rest) = refl
follows-plain field _ more (Begun f head rest plain) = plain

starts-follow : (l : List Item) → Starts l → Follows l
starts-follow _ (StartsWith field x c role rest) = Named field x c role rest

end-follows : (tree : List Item) (changes : List Change) (around : List Around) → Follows (new_end tree changes around)
end-follows tree changes [] = Ended []
end-follows tree changes (node ∷ outer) = by_two (is_shorthand_in_pattern node.head && has_default tree node.begins && is_key_spelled_out tree changes node.begins)
  where
    by_two : (b : Bool) → Follows (if b then h.Close ∷ h.Close ∷ [] else h.Close ∷ [])
    by_two true = Ended (h.Close ∷ [])
    by_two false = Ended []

-- elements among which no default declaration begins
module _ (rest : List Item) (plain : ArePlain rest) where
  front-plain : (field : ℕ) (x : Text) (d : Bool) → ArePlain (pattern_front field x d ++ rest)
  front-plain field x true = (refl, (refl, (refl, (refl, plain))))
  front-plain field x false = (refl, (refl, (refl, plain)))

  if-plain : (b : Bool) (one two : List Item) → ArePlain (one ++ rest) → ArePlain (two ++ rest) → ArePlain ((if b then one else two) ++ rest)
  if-plain true one two a b = a
  if-plain false one two a b = b

  pair-plain : (b : Bool) (field : ℕ) (x y : Text) (e : ℕ) (role : Role) → ArePlain ((h.Open field h.KeyValueProp ∷ ((if b then h.Open 0 h.ComputedPropName ∷ h.Open 0 (h.Str x None) ∷ h.Close ∷ h.Close ∷ [] else plain_key x) ++ h.Ident 1 y e role ∷ h.Close ∷ [])) ++ rest)
  pair-plain true field x y e role = (refl, (refl, (refl, (refl, (refl, (refl, (refl, plain)))))))
  pair-plain false field x y e role = (refl, (refl, (refl, (refl, (refl, plain)))))

  occurrence-plain : (field : ℕ) (around : List Around) (is_last : Bool) (x : Text) (c : ℕ) (role : Role) (change : Option Change) → ArePlain (new_occurrence field around is_last x c role change ++ rest)
  occurrence-plain field around is_last x c role None = (refl, plain)
  occurrence-plain field [] is_last x c role (Some change) = (refl, plain)
  occurrence-plain field (node ∷ outer) is_last x c role (Some change) =
      if-plain change.is_spelled_out (spelled_out field node.head is_last x role change.ident) (h.Ident field change.ident.0 change.ident.1 role ∷ [])
      (if-plain (is_object node.head) (h.Open field h.KeyValueProp ∷ (key_in_object x ++ h.Ident 1 change.ident.0 change.ident.1 role ∷ h.Close ∷ [])) (if is_specifier node.head && is_last then h.Ident field change.ident.0 change.ident.1 role ∷ h.Ident 1 x 0 r.Word ∷ [] else h.Ident field change.ident.0 change.ident.1 role ∷ [])
      (pair-plain (bytes_eq x (codes "__proto__")) field x change.ident.0 change.ident.1 role)
      (if-plain (is_specifier node.head && is_last) (h.Ident field change.ident.0 change.ident.1 role ∷ h.Ident 1 x 0 r.Word ∷ []) (h.Ident field change.ident.0 change.ident.1 role ∷ []) (refl, (refl, plain)) (refl, plain)))
      (refl, plain)

  end-plain : (tree : List Item) (changes : List Change) (around : List Around) → ArePlain (new_end tree changes around ++ rest)
  end-plain tree changes [] = (refl, plain)
  end-plain tree changes (node ∷ outer) = if-plain (is_shorthand_in_pattern node.head && has_default tree node.begins && is_key_spelled_out tree changes node.begins) (h.Close ∷ h.Close ∷ []) (h.Close ∷ []) (refl, (refl, plain)) (refl, plain)

module _ (tree : List Item) (changes : List Change) where
  -- what follows a default declaration
  decl-plain : (spot : Spot) (field f : ℕ) (rest : List Item) → spells_default (h.Open field h.ExportDefaultDecl) rest ≡ false → spells_default (h.Open f h.ExportDefaultDecl) (rebuilt_at tree changes (past spot (h.Open field h.ExportDefaultDecl)) rest) ≡ false
  decl-plain spot field f [] plain = refl
  decl-plain spot field f (x ∷ rest) plain = follows-plain f (new_item tree changes behind.place (path_to behind.path x) x) (rebuilt_at tree changes (past behind x) rest) (by_item x plain)
    where
      behind : Spot
      behind = past spot (h.Open field h.ExportDefaultDecl)

      by_item : (x : Item) → spells_default (h.Open field h.ExportDefaultDecl) (x ∷ rest) ≡ false → Follows (new_item tree changes (past spot (h.Open field h.ExportDefaultDecl)).place (path_to (past spot (h.Open field h.ExportDefaultDecl)).path x) x)
      by_item (h.Open inner head) plain = subst Follows (sym (begin-other tree changes (λ n. n) (past spot (h.Open field h.ExportDefaultDecl)).place inner (past spot (h.Open field h.ExportDefaultDecl)).path head (or_parts (is_shorthand_in_pattern head) (is_object head) plain).0)) (Begun (child_field tree changes (λ n. n) inner (in_field inner (past spot (h.Open field h.ExportDefaultDecl)).path)) head [] plain)
      by_item (h.Ident first x c r.Word) plain = Named first x c r.Word []
      by_item (h.Ident first x c r.Binding) plain = starts-follow _ (occurrence-starts first (record { head = h.ExportDefaultDecl; begins = spot.place; field = first }) (in_field field spot.path) (ends_at (slice_get tree (suc (spot.place + 1)))) x c r.Binding (change_at tree changes (spot.place + 1)) refl)
      by_item (h.Ident first x c r.Reference) plain = starts-follow _ (occurrence-starts first (record { head = h.ExportDefaultDecl; begins = spot.place; field = first }) (in_field field spot.path) (ends_at (slice_get tree (suc (spot.place + 1)))) x c r.Reference (change_at tree changes (spot.place + 1)) refl)
      by_item (h.Hole first) plain = Empty first []
      by_item h.Close plain = end-follows tree changes (past spot (h.Open field h.ExportDefaultDecl)).path

  begin-plain : (spot : Spot) (field f : ℕ) (head : Head) (rest : List Item) → spells_default (h.Open field head) rest ≡ false → spells_default (h.Open f head) (rebuilt_at tree changes (past spot (h.Open field head)) rest) ≡ false
  begin-plain spot field f h.ExportDefaultDecl rest plain = decl-plain spot field f rest plain
  begin-plain spot field f _ rest plain = refl

  other-plain : (spot : Spot) (field : ℕ) (head : Head) (rest : List Item) → is_shorthand_in_pattern head ≡ false → spells_default (h.Open field head) rest ≡ false → ArePlain (rebuilt_at tree changes (past spot (h.Open field head)) rest) → ArePlain (new_begin tree changes spot.place field (in_field field spot.path) head ++ rebuilt_at tree changes (past spot (h.Open field head)) rest)
  other-plain spot field head rest e plain later = subst (λ l. ArePlain (l ++ rebuilt_at tree changes (past spot (h.Open field head)) rest)) (sym (begin-other tree changes (λ n. n) spot.place field spot.path head e)) (begin-plain spot field (child_field tree changes (λ n. n) field (in_field field spot.path)) head rest plain, later)

  plain-item : (spot : Spot) (x : Item) (rest : List Item) → spells_default x rest ≡ false → ArePlain (rebuilt_at tree changes (past spot x) rest) → ArePlain (new_item tree changes spot.place (path_to spot.path x) x ++ rebuilt_at tree changes (past spot x) rest)
  plain-item spot (h.Open field h.AssignPatProp) rest plain later = if-plain (rebuilt_at tree changes (past spot (h.Open field h.AssignPatProp)) rest) later (is_key_spelled_out tree changes spot.place) (pattern_front field (symbol_of (slice_get tree (spot.place + 2))) (has_default tree spot.place)) (h.Open field h.AssignPatProp ∷ []) (front-plain (rebuilt_at tree changes (past spot (h.Open field h.AssignPatProp)) rest) later field (symbol_of (slice_get tree (spot.place + 2))) (has_default tree spot.place)) (refl, later)
  plain-item spot (h.Open field head) rest plain later = other-plain spot field head rest refl plain later
  plain-item spot (h.Ident field x c r.Word) rest plain later = (refl, later)
  plain-item spot (h.Ident field x c r.Binding) rest plain later = occurrence-plain (rebuilt_at tree changes (past spot (h.Ident field x c r.Binding)) rest) later field (in_field field spot.path) (ends_at (slice_get tree (suc spot.place))) x c r.Binding (change_at tree changes spot.place)
  plain-item spot (h.Ident field x c r.Reference) rest plain later = occurrence-plain (rebuilt_at tree changes (past spot (h.Ident field x c r.Reference)) rest) later field (in_field field spot.path) (ends_at (slice_get tree (suc spot.place))) x c r.Reference (change_at tree changes spot.place)
  plain-item spot (h.Hole field) rest plain later = (refl, later)
  plain-item spot h.Close rest plain later = end-plain (rebuilt_at tree changes (past spot h.Close) rest) later tree changes spot.path

  plain-at : (spot : Spot) (rest : List Item) → ArePlain rest → ArePlain (rebuilt_at tree changes spot rest)
  plain-at spot [] plain = tt
  plain-at spot (x ∷ rest) plain = plain-item spot x rest plain.0 (plain-at (past spot x) rest plain.1)

pub rebuilt-plain : (tree : List Item) (changes : List Change) → ArePlain tree → ArePlain (rebuilt tree changes)
rebuilt-plain tree changes plain = subst ArePlain (sym (rebuilt-start tree changes)) (plain-at tree changes start tree plain)

-- ---- faithful

-- zipped lists at one place
pub zip-at : {A B : Type 0} (R : A → B → Type 0) (xs : List A) (ys : List B) → AllZip R xs ys → (i : ℕ) (y : B) → slice_get ys i ≡ Some y → (x : A) × (slice_get xs i ≡ Some x) × R x y
zip-at R xs [] all i y at = absurd (none-some y at)
zip-at R [] (b ∷ ys) all i y at = absurd all
zip-at R (a ∷ xs) (b ∷ ys) all zero y at = (a, refl, subst (R a) (same_Some b y at) all.0)
zip-at R (a ∷ xs) (b ∷ ys) all (suc i) y at = zip-at R xs ys all.1 i y at

-- where no default export is without a name, each declaration has an identifier
pub names-only : (items : List Item) → AreNamed items → HasNamesOnly items
names-only items named d within =
    let i = within.0 in
    let at : IsIn (declarations ByContext (occurrences items)) d = subst (λ l. IsIn l d) (declared-named ByContext items named) (i, slice_at (declared ByContext Es items) i d within.1 within.2) in
    let from = declared-in ByContext (occurrences items) d at in
    let origin = origin-of (occurrences items) from.0 from.1 d from.2 in
    ap (λ (x : Declared). is_some x.name.ctxt) origin.is
  where
    slice_at : (xs : List Declared) (i : ℕ) (x : Declared) → i < length xs → get_or xs i x ≡ x → slice_get xs i ≡ Some x
    slice_at xs i x less is = slice_get-get_or xs i x less ∙ ap (λ y. Some y) is

module _ (call : Calling) (move : ℕ → ℕ) (injective : IsInjective move) (before after : List Item) (names : HasNamesOnly before) (named_after : AreNamed after) (zip : AllZip (Recalls call move) (occurrences before) (occurrences after)) (faithful : IsFaithful call (occurrences before) (declared ByContext Es before)) where
  abbrev os : List Occurrence
  os = occurrences before

  abbrev all : List Declared
  all = declared ByContext Es before

  abbrev every : List Declared
  every = declared ByContext Es after

  zip_declared : AllZip (IsRecalled call move os) all every
  zip_declared = subst (λ l. AllZip (IsRecalled call move os) l every) (sym (all-are before names)) (subst (AllZip (IsRecalled call move os) (declarations ByContext os)) (sym (declared-named ByContext after named_after)) (declarations-recalled call move os os (occurrences after) (λ o at. at) zip))

  -- names denote alike
  pub recalled-alike : DenoteAlike ByContext before ByContext after
  recalled-alike = alike-from ByContext (recalled_denoted call move) (IsKnown os) before after
      (map-zip_in os (occurrences after) (λ o at. at) zip ∙ sym (map-twice (recalled_denoted call move) (denoted_of ByContext Es all) os))
      (λ d at. let from = map-in (denoted_of ByContext Es all) os d at in subst (IsKnown os) (sym from.2) (known call move injective os all every zip_declared faithful from.0 from.1))
      (recalled-one call move injective os all every zip_declared faithful)
      (recalled-global call move)
      (λ x. refl)
    where
      map-zip_in : (l ps : List Occurrence) → ((o : Occurrence) → IsIn l o → IsIn os o) → AllZip (Recalls call move) l ps → map (denoted_of ByContext Es every) ps ≡ map (λ o. recalled_denoted call move (denoted_of ByContext Es all o)) l
      map-zip_in [] [] among zip = refl
      map-zip_in [] (p ∷ ps) among zip = absurd zip
      map-zip_in (o ∷ l) [] among zip = absurd zip
      map-zip_in (o ∷ l) (p ∷ ps) among zip =
          ap (λ d. d ∷ map (denoted_of ByContext Es every) ps) (denoted-recalled call move injective os all every zip_declared faithful o p (among o (0, refl)) zip.0)
          ∙ ap (λ ds. recalled_denoted call move (denoted_of ByContext Es all o) ∷ ds) (map-zip_in l ps (λ q at. among q (suc at.0, at.1)) zip.1)

  -- what stands at a place afterwards
  record Was (p : ℕ) (a : Occurrence) : Type 0 where
    pub o : Occurrence
    pub at : IsIn os o
    pub stands : occurrence_at before o.place ≡ Some o
    pub recalls : Recalls call move o a
    pub denotes : denoted_at ByContext Es after p ≡ Some (recalled_denoted call move (denoted_of ByContext Es all o))

  was : (p : ℕ) (a : Occurrence) → occurrence_at after p ≡ Some a → Was p a
  was p a e =
      let listed = occurrence_at-listed after p a e in
      let found = zip-at (Recalls call move) os (occurrences after) zip listed.0 a listed.1 in
      record {
        o = found.0;
        at = (listed.0, found.1);
        stands = occurrences-at before listed.0 found.0 found.1;
        recalls = found.2;
        denotes = ap (option_map (denoted_of ByContext Es every)) e ∙ ap (λ d. Some d) (denoted-recalled call move injective os all every zip_declared faithful found.0 a (listed.0, found.1) found.2);
      }

  before-at : (o : Occurrence) → occurrence_at before o.place ≡ Some o → denoted_at ByContext Es before o.place ≡ Some (denoted_of ByContext Es all o)
  before-at o e = ap (option_map (denoted_of ByContext Es all)) e

  -- the tree is resolved again
  pub recalled-resolved : IsResolved Es before → IsResolved Es after
  recalled-resolved resolved = record {
    same = λ p q a b at there. both p q a b (was p a at) (was q b there);
    own_arguments = λ p a at e. own p a (was p a at) e;
  }
    where
      both : (p q : ℕ) (a b : Occurrence) → Was p a → Was q b → SameIdent a b ↔ (denoted_at ByContext Es after p ≡ denoted_at ByContext Es after q)
      both p q a b x y = (
        λ same.
            let one = faithful.one x.o y.o x.at y.at (sym x.recalls.symbol ∙ same.0 ∙ y.recalls.symbol) (sym x.recalls.context ∙ same.1 ∙ y.recalls.context) in
            let denoted : denoted_of ByContext Es all x.o ≡ denoted_of ByContext Es all y.o = same_Some _ _ (sym (before-at x.o x.stands) ∙ (resolved.same x.o.place y.o.place x.o y.o x.stands y.stands).0 one ∙ before-at y.o y.stands) in
            x.denotes ∙ ap (λ d. Some (recalled_denoted call move d)) denoted ∙ sym y.denotes,
        λ same.
            let denoted : denoted_of ByContext Es all x.o ≡ denoted_of ByContext Es all y.o = recalled-one call move injective os all every zip_declared faithful (denoted_of ByContext Es all x.o) (denoted_of ByContext Es all y.o) (known call move injective os all every zip_declared faithful x.o x.at) (known call move injective os all every zip_declared faithful y.o y.at) (same_Some _ _ (sym x.denotes ∙ same ∙ y.denotes)) in
            let one = (resolved.same x.o.place y.o.place x.o y.o x.stands y.stands).1 (before-at x.o x.stands ∙ ap (λ d. Some d) denoted ∙ sym (before-at y.o y.stands)) in
            let idents_same : call x.o.sym x.o.ctxt ≡ call y.o.sym y.o.ctxt = ap (λ z. call z x.o.ctxt) one.0 ∙ ap (call y.o.sym) one.1 in
            (x.recalls.symbol ∙ ap (λ (i : Ident). i.0) idents_same ∙ sym y.recalls.symbol, x.recalls.context ∙ ap (λ (i : Ident). i.1) idents_same ∙ sym y.recalls.context),
      )

      own : (p : ℕ) (a : Occurrence) → Was p a → denoted_at ByContext Es after p ≡ Some (Global (codes "arguments")) → find is_function (scopes_around Es a.path) ≡ None
      own p a x e =
          let global = recalled-global call move (denoted_of ByContext Es all x.o) (codes "arguments") (same_Some _ _ (sym x.denotes ∙ e)) in
          let none = resolved.own_arguments x.o.place x.o x.stands (before-at x.o x.stands ∙ ap (λ d. Some d) global) in
          ap (find is_function) x.recalls.scopes ∙ find-moved move is_function is_function (function-stays move) (scopes_around Es x.o.path) ∙ ap (option_map (moved move)) none

-- places that have moved, with identifiers that are known
zip-idents : (call : Calling) (move : ℕ → ℕ) (os ps : List Occurrence) → AllZip (HasPlace move) os ps → map ident_of ps ≡ map (λ (o : Occurrence). call o.sym o.ctxt) os → AllZip (Recalls call move) os ps
zip-idents call move [] [] zip e = tt
zip-idents call move [] (p ∷ ps) zip e = absurd zip
zip-idents call move (o ∷ os) [] zip e = absurd zip
zip-idents call move (o ∷ os) (p ∷ ps) zip e =
    let first : ident_of p ≡ call o.sym o.ctxt = cc in
    let later : map ident_of ps ≡ map (λ (o : Occurrence). call o.sym o.ctxt) os = cc in
    let one : HasPlace move o p = zip.0 in
    (record { role = one.role; symbol = ap (λ (i : Ident). i.0) first; context = ap (λ (i : Ident). i.1) first; way = one.way; scopes = one.scopes }, zip-idents call move os ps zip.1 later)

-- The whole, for a tree that was made anew with identifiers that tell its bindings apart as before.
module _ (call : Calling) (before after : List Item) (names : HasNamesOnly before) (plain : ArePlain before) (faithful : IsFaithful call (occurrences before) (declared ByContext Es before)) (same : IsRebuilt before after) (calls : idents after ≡ map (λ (o : Occurrence). call o.sym o.ctxt) (occurrences before)) where
  abbrev move : ℕ → ℕ
  move = place_in before (changes_to (idents before) (idents after))

  pub named_after : AreNamed after
  named_after = subst AreNamed (sym same) (rebuilt-named before (changes_to (idents before) (idents after)) (all-named before names) plain)

  pub zip : AllZip (Recalls call (place_in before (changes_to (idents before) (idents after)))) (occurrences before) (occurrences after)
  zip = zip-idents call (place_in before (changes_to (idents before) (idents after))) (occurrences before) (occurrences after) (subst (λ l. AllZip (HasPlace (place_in before (changes_to (idents before) (idents after)))) (occurrences before) (occurrences l)) (sym same) (rebuilt-zipped before (changes_to (idents before) (idents after)))) calls

  pub faithful-alike : DenoteAlike ByContext before ByContext after
  faithful-alike = recalled-alike call move (place-injective before (changes_to (idents before) (idents after))) before after names named_after zip faithful

  pub faithful-resolved : IsResolved Es before → IsResolved Es after
  faithful-resolved resolved = recalled-resolved call move (place-injective before (changes_to (idents before) (idents after))) before after names named_after zip faithful resolved

  pub faithful-names : HasNamesOnly after
  faithful-names = names-only after named_after

  pub faithful-plain : ArePlain after
  faithful-plain = subst ArePlain (sym same) (rebuilt-plain before (changes_to (idents before) (idents after)) plain)
