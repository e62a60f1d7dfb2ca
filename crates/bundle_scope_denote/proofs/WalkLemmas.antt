-- What each element of a list makes of the walk over it.
use Rattle.std.proofs.Common.{◌≡◌, ℕ, zero, suc, ◌+◌, ◌==◌, ◌&&◌, Bool, true, false, cond, List, [], ◌∷◌, ◌++◌, Option, Some, None, option_map, length, drop, refl, ap, sym, ◌∙◌, subst, append_assoc, append-nil, arith}
use Rattle.std.specs.Prelude.{slice_get}
use Rattle.std.specs.Option.{option_to_list}
use Rattle.std.specs.List.{AllZip, cons_option}
use Rattle.std.proofs.lemmas.Option.{none-some, same_Some}
use Rattle.std.proofs.lemmas.Slice.Zip.{all_zipped_more}
use Rattle.bundle_syntax.specs.Item.{Item, Head}
use Rattle.bundle_rules.specs.Places as p
use Rattle.bundle_rules.proofs.PlacesLemmas.{spot_before-next}
use Rattle.bundle_rules.specs.Scopes as s
use Rattle.bundle_rules.specs.Declarations as d
use Rattle.bundle_scope_denote.specs.declared.table.ScopeKind.{ScopeKind}
use Rattle.bundle_scope_denote.specs.declared.table.Way.{Way}
use Rattle.bundle_scope_denote.specs.declared.walk.Declaration.{Declaration}
use Rattle.bundle_scope_denote.specs.declared.walk.NameOccurrence.{NameOccurrence}
use Rattle.bundle_scope_denote.specs.declared.walk.Open.{Open}
use Rattle.bundle_scope_denote.specs.Kinds.{scope_as, way_named, kind_named, kind_made, is_in_field, head_way_in, variable_way, leaves_first_out}
use Rattle.bundle_scope_denote.specs.Numbers.{NumberedScope, AreAround, KeepsNumbers, in_scope}
use Rattle.bundle_scope_denote.specs.Walked.{scope_within, scope_in, IsInnermost, AreOpenNodes, IsDeclared, IsSeen, AreDeclaredTo, AreSeenTo}
use Rattle.bundle_scope_denote.specs.Steps.{repeated}
use Rattle.bundle_scope_denote.proofs.ChainLemmas.{Keeps-append, slice_get-next, AreAround-keeps, AllZip-weaker}
use Rattle.bundle_scope_denote.proofs.ZipLemmas.{BothOrNone}
use Rattle.bundle_scope_denote.proofs.HeadLemmas.{way_in-named, way_of_variable-named, kind_made-named}

-- the items from a place on begin with the one there
pub drop-at : (items : List Item) (place : ℕ) (item : Item) → slice_get items place ≡ Some item → drop place items ≡ item ∷ drop (place + 1) items
drop-at items place item at = let n : place + 1 ≡ suc place = omega arith in from items place item at ∙ ap (λ k. item ∷ drop k items) (sym n)
  where
    from : (items : List Item) (place : ℕ) (item : Item) → slice_get items place ≡ Some item → drop place items ≡ item ∷ drop (suc place) items
    from [] place item at = absurd (none-some item at)
    from (x ∷ xs) zero item at = ap (λ y. y ∷ xs) (same_Some x item at)
    from (x ∷ xs) (suc place) item at = from xs place item at

-- what is known of the innermost node does not depend on its field
same_field : (field other : ℕ) (path : List p.Around) → p.in_field field (p.in_field other path) ≡ p.in_field field path
same_field field other [] = refl
same_field field other (node ∷ outer) = refl

IsInnermost-in_field : (scopes : List NumberedScope) (kind : s.ModuleKind) (node : Open) (field : ℕ) (path : List p.Around) → IsInnermost scopes kind node path → IsInnermost scopes kind node (p.in_field field path)
IsInnermost-in_field scopes kind node field path known = record {
  way = λ f. known.way f ∙ ap (λ q. option_map way_named (d.way_of q)) (sym (same_field f field path));
  variable = λ f. known.variable f ∙ ap (λ q. option_map way_named (d.way_of_declarator q)) (sym (same_field f field path));
  defaults = λ f. known.defaults f ∙ ap s.is_default (sym (same_field f field path));
  heads = λ f. known.heads f ∙ ap d.heads_loop (sym (same_field f field path));
  block = λ f. known.block f ∙ ap (λ q. kind_named (s.block_kind q)) (sym (same_field f field path));
  scope = λ f. subst (λ q. AreAround scopes (Some (scope_in node f)) (s.scopes_around kind q)) (sym (same_field f field path)) (known.scope f);
}

pub AreOpen-in_field : (scopes : List NumberedScope) (kind : s.ModuleKind) (nodes : List Open) (field : ℕ) (path : List p.Around) → AreOpenNodes scopes kind nodes path → AreOpenNodes scopes kind nodes (p.in_field field path)
AreOpen-in_field scopes kind [] field [] known = known
AreOpen-in_field scopes kind [] field (around ∷ path) known = known
AreOpen-in_field scopes kind (node ∷ outer) field [] known = known
AreOpen-in_field scopes kind (node ∷ outer) field (around ∷ path) known = (IsInnermost-in_field scopes kind node field (around ∷ path) known.0, known.1)

-- and stays as the table grows
IsInnermost-keeps : (old new : List NumberedScope) → KeepsNumbers old new → (kind : s.ModuleKind) (node : Open) (path : List p.Around) → IsInnermost old kind node path → IsInnermost new kind node path
IsInnermost-keeps old new keeps kind node path known = record {
  way = known.way;
  variable = known.variable;
  defaults = known.defaults;
  heads = known.heads;
  block = known.block;
  scope = λ f. AreAround-keeps old new keeps (Some (scope_in node f)) (s.scopes_around kind (p.in_field f path)) (known.scope f);
}

pub AreOpen-keeps : (old new : List NumberedScope) → KeepsNumbers old new → (kind : s.ModuleKind) (nodes : List Open) (path : List p.Around) → AreOpenNodes old kind nodes path → AreOpenNodes new kind nodes path
AreOpen-keeps old new keeps kind [] path known = known
AreOpen-keeps old new keeps kind (node ∷ outer) [] known = (IsInnermost-keeps old new keeps kind node [] known.0, known.1)
AreOpen-keeps old new keeps kind (node ∷ outer) (around ∷ path) known = (IsInnermost-keeps old new keeps kind node (around ∷ path) known.0, AreOpen-keeps old new keeps kind outer path known.1)

-- what is known of the innermost node
pub innermost : (scopes : List NumberedScope) (kind : s.ModuleKind) (node : Open) (outer : List Open) (path : List p.Around) → AreOpenNodes scopes kind (node ∷ outer) path → IsInnermost scopes kind node path
innermost scopes kind node outer [] known = known.0
innermost scopes kind node outer (around ∷ path) known = known.0

-- the same where more nodes of which the same is known are open in it
pub innermost-open : (scopes : List NumberedScope) (kind : s.ModuleKind) (more : ℕ) (node : Open) (outer : List Open) (path : List p.Around) → AreOpenNodes scopes kind (repeated more node (node ∷ outer)) path → IsInnermost scopes kind node path
innermost-open scopes kind zero node outer path known = innermost scopes kind node outer path known
innermost-open scopes kind (suc more) node outer path known = innermost scopes kind node (repeated more node (node ∷ outer)) path known

-- a kind of scope has its name
pub named_scope : (kind : s.ScopeKind) (begins : ℕ) → scope_as (kind_named kind) begins ≡ s.Inner kind begins
named_scope s.Parameters begins = refl
named_scope s.ArrowParameters begins = refl
named_scope s.FunctionBody begins = refl
named_scope s.StaticBody begins = refl
named_scope s.Block begins = refl
named_scope s.CatchBlock begins = refl
named_scope s.Loop begins = refl
named_scope s.Catch begins = refl
named_scope s.FunctionName begins = refl
named_scope s.ClassName begins = refl

-- the scopes in a node are those around it, and its own where the field is not left out
scopes_within : (scopes : List NumberedScope) (place around : ℕ) (left : Bool) (made : Option ScopeKind) (found : Option s.ScopeKind) (outer : List s.Scope) → option_map kind_named found ≡ cond left None made → AreAround scopes (Some around) outer → AreAround (scopes ++ option_to_list (option_map (in_scope place around) made)) (Some (scope_within (option_map (λ _. length scopes) (option_map (in_scope place around) made)) around left)) (s.scope_at place found ++ outer)
scopes_within scopes place around true None None outer is known = AreAround-keeps scopes (scopes ++ []) (Keeps-append scopes []) (Some around) outer known
scopes_within scopes place around false None None outer is known = AreAround-keeps scopes (scopes ++ []) (Keeps-append scopes []) (Some around) outer known
scopes_within scopes place around true (Some kind) None outer is known = AreAround-keeps scopes (scopes ++ in_scope place around kind ∷ []) (Keeps-append scopes (in_scope place around kind ∷ [])) (Some around) outer known
scopes_within scopes place around false (Some kind) None outer is known = absurd (none-some kind is)
scopes_within scopes place around true None (Some found) outer is known = cc
scopes_within scopes place around false None (Some found) outer is known = cc
scopes_within scopes place around true (Some kind) (Some found) outer is known = cc
scopes_within scopes place around false (Some kind) (Some found) outer is known =
    (in_scope place around kind, slice_get-next scopes (in_scope place around kind), ap (λ k. scope_as k place) (sym (same_Some (kind_named found) kind is)) ∙ named_scope found place, AreAround-keeps scopes (scopes ++ in_scope place around kind ∷ []) (Keeps-append scopes (in_scope place around kind ∷ [])) (Some around) outer known)

-- the way of a name in a node that begins
way_in_new : (is_pattern : Bool) (head : Head) (path : List p.Around) (way variable : Option Way) (is_default : Bool) → way ≡ option_map way_named (d.way_of path) → variable ≡ option_map way_named (d.way_of_declarator path) → is_default ≡ s.is_default path → cond is_pattern way (head_way_in head variable is_default) ≡ option_map way_named (cond is_pattern (d.way_of path) (d.way_in head path))
way_in_new true head path way variable is_default e1 e2 e3 = e1
way_in_new false head path way variable is_default e1 e2 e3 = ap (λ x. head_way_in head x is_default) e2 ∙ ap (λ x. head_way_in head (option_map way_named (d.way_of_declarator path)) x) e3 ∙ way_in-named head path

-- a node that begins is the innermost one
pub innermost-new : (scopes : List NumberedScope) (kind : s.ModuleKind) (inner new : Open) (path : List p.Around) (place field : ℕ) (head : Head) → IsInnermost scopes kind inner path → new.way ≡ cond (d.is_pattern head) inner.way (head_way_in head inner.variable inner.is_default) → new.variable ≡ variable_way head (is_in_field inner.head field) → new.block ≡ kind_named (s.block_in head) → new.is_default ≡ s.exports_default head → ((f : ℕ) → is_in_field new.head f ≡ d.is_loop_head head f) → new.leaves_first_out ≡ leaves_first_out head → new.around ≡ scope_in inner field → new.own ≡ option_map (λ _. length scopes) (option_map (in_scope place (scope_in inner field)) (kind_made head inner.block inner.is_default)) → IsInnermost (scopes ++ option_to_list (option_map (in_scope place (scope_in inner field)) (kind_made head inner.block inner.is_default))) kind new (record { head = head; begins = place; field = 0 } ∷ p.in_field field path)
innermost-new scopes kind inner new path place field head known is_way is_variable is_block is_default is_heads is_left is_around is_own =
    let outer : List p.Around = p.in_field field path in
    let made : Option ScopeKind = kind_made head inner.block inner.is_default in
    let made_named : (f : ℕ) → option_map kind_named (s.kind_of_scope head f outer) ≡ cond (leaves_first_out head && f == 0) None made =
    λ f. kind_made-named head f outer ∙ ap (λ b. cond (leaves_first_out head && f == 0) None (kind_made head b (s.is_default outer))) (sym (known.block field)) ∙ ap (λ b. cond (leaves_first_out head && f == 0) None (kind_made head inner.block b)) (sym (known.defaults field)) in
    let within : (f : ℕ) → scope_in new f ≡ scope_within (option_map (λ _. length scopes) (option_map (in_scope place (scope_in inner field)) made)) (scope_in inner field) (leaves_first_out head && f == 0) =
    λ f. ap (λ o. scope_within o new.around (new.leaves_first_out && f == 0)) is_own ∙ ap (λ a. scope_within (option_map (λ _. length scopes) (option_map (in_scope place (scope_in inner field)) made)) a (new.leaves_first_out && f == 0)) is_around ∙ ap (λ x. scope_within (option_map (λ _. length scopes) (option_map (in_scope place (scope_in inner field)) made)) (scope_in inner field) (x && f == 0)) is_left in
    record {
      way = λ f. is_way ∙ way_in_new (d.is_pattern head) head outer inner.way inner.variable inner.is_default (known.way field) (known.variable field) (known.defaults field);
      variable = λ f. is_variable ∙ ap (variable_way head) (known.heads field) ∙ way_of_variable-named head outer;
      defaults = λ f. is_default;
      heads = is_heads;
      block = λ f. is_block;
      scope = λ f. subst (λ n. AreAround (scopes ++ option_to_list (option_map (in_scope place (scope_in inner field)) made)) (Some n) (s.scope_at place (s.kind_of_scope head f outer) ++ s.scopes_around kind outer)) (sym (within f)) (scopes_within scopes place (scope_in inner field) (leaves_first_out head && f == 0) made (s.kind_of_scope head f outer) (s.scopes_around kind outer) (made_named f) (known.scope field));
    }

-- what may be put first in the rest goes behind what was before
pub behind_option : {X : Type 0} (before : List X) (first : Option X) (rest : List X) → (before ++ option_to_list first) ++ rest ≡ before ++ cons_option first rest
behind_option before None rest = ap (λ l. l ++ rest) (append-nil before)
behind_option before (Some x) rest = append_assoc before (x ∷ []) rest

-- one more of both, or of neither
all_zipped_option : {A B : Type 0} (R : A → B → Type 0) (xs : List A) (ys : List B) (x : Option A) (y : Option B) → AllZip R xs ys → BothOrNone R x y → AllZip R (xs ++ option_to_list x) (ys ++ option_to_list y)
all_zipped_option R xs ys None None all both = subst (λ l. AllZip R l (ys ++ [])) (sym (append-nil xs)) (subst (λ l. AllZip R xs l) (sym (append-nil ys)) all)
all_zipped_option R xs ys (Some x) (Some y) all both = all_zipped_more R xs ys x y all both
all_zipped_option R xs ys None (Some y) all both = absurd both
all_zipped_option R xs ys (Some x) None all both = absurd both

-- the declarations go on by an item that declares something or nothing
pub declared-next : (scopes new_scopes : List NumberedScope) (names new_names : List d.Name) → KeepsNumbers scopes new_scopes → KeepsNumbers names new_names → (reading : d.Reading) (kind : s.ModuleKind) (items : List Item) (place : ℕ) (item : Item) (declarations new_declarations : List Declaration) (declaration : Option Declaration) → slice_get items place ≡ Some item → new_declarations ≡ declarations ++ option_to_list declaration → BothOrNone (IsDeclared new_scopes new_names) declaration (d.declared_at reading kind (p.spot_before items place) item (drop (place + 1) items)) → AreDeclaredTo scopes names reading kind items place declarations → AreDeclaredTo new_scopes new_names reading kind items (place + 1) new_declarations
declared-next scopes new_scopes names new_names keep_scopes keep_names reading kind items place item declarations new_declarations declaration at is both known =
    let spot : p.Spot = p.spot_before items place in
    let found : Option d.Declared = d.declared_at reading kind spot item (drop (place + 1) items) in
    let grown : AllZip (IsDeclared new_scopes new_names) declarations known.before = AllZip-weaker (IsDeclared scopes names) (IsDeclared new_scopes new_names) (λ a b e. record { place = e.place; name = keep_names a.name b.name e.name; by = e.by; around = AreAround-keeps scopes new_scopes keep_scopes (Some a.scope) b.scopes e.around }) declarations known.before known.each in
    record {
      before = known.before ++ option_to_list found;
      each = subst (λ l. AllZip (IsDeclared new_scopes new_names) l (known.before ++ option_to_list found)) (sym is) (all_zipped_option (IsDeclared new_scopes new_names) declarations known.before declaration found grown both);
      rest = ap (λ x. (known.before ++ option_to_list found) ++ d.declared_from reading kind x (drop (place + 1) items)) (spot_before-next items place item at) ∙ behind_option known.before found (d.declared_from reading kind (p.past spot item) (drop (place + 1) items)) ∙ ap (λ l. known.before ++ d.declared_from reading kind spot l) (sym (drop-at items place item at)) ∙ known.rest;
    }

-- the occurrences go on by an item that is one or none
pub seen-next : (scopes new_scopes : List NumberedScope) (names new_names : List d.Name) → KeepsNumbers scopes new_scopes → KeepsNumbers names new_names → (reading : d.Reading) (kind : s.ModuleKind) (items : List Item) (place : ℕ) (item : Item) (occurrences new_occurrences : List NameOccurrence) (occurrence : Option NameOccurrence) → slice_get items place ≡ Some item → new_occurrences ≡ occurrences ++ option_to_list occurrence → BothOrNone (IsSeen new_scopes new_names reading kind (d.declared reading kind items)) occurrence (p.occurrence_of (p.spot_before items place) item) → AreSeenTo scopes names reading kind items place occurrences → AreSeenTo new_scopes new_names reading kind items (place + 1) new_occurrences
seen-next scopes new_scopes names new_names keep_scopes keep_names reading kind items place item occurrences new_occurrences occurrence at is both known =
    let spot : p.Spot = p.spot_before items place in
    let all : List d.Declared = d.declared reading kind items in
    let found : Option p.Occurrence = p.occurrence_of spot item in
    let grown : AllZip (IsSeen new_scopes new_names reading kind all) occurrences known.before = AllZip-weaker (IsSeen scopes names reading kind all) (IsSeen new_scopes new_names reading kind all) (λ a b e. record { place = e.place; name = keep_names a.name (d.name_of reading b.sym b.ctxt) e.name; around = AreAround-keeps scopes new_scopes keep_scopes (Some a.scope) (s.scopes_around kind b.path) e.around; declaration = e.declaration; declares = e.declares }) occurrences known.before known.each in
    record {
      before = known.before ++ option_to_list found;
      each = subst (λ l. AllZip (IsSeen new_scopes new_names reading kind all) l (known.before ++ option_to_list found)) (sym is) (all_zipped_option (IsSeen new_scopes new_names reading kind all) occurrences known.before occurrence found grown both);
      rest = ap (λ x. (known.before ++ option_to_list found) ++ p.occurrences_from x (drop (place + 1) items)) (spot_before-next items place item at) ∙ behind_option known.before found (p.occurrences_from (p.past spot item) (drop (place + 1) items)) ∙ ap (λ l. known.before ++ p.occurrences_from spot l) (sym (drop-at items place item at)) ∙ known.rest;
    }
