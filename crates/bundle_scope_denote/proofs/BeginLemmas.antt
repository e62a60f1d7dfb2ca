-- The walk before the first place of a module.
use Rattle.std.proofs.Common.{◌≡◌, ℕ, false, List, [], ◌∷◌, ◌++◌, Some, None, reverse, refl, ap, sym as back, ◌∙◌, subst, ◌&&◌, ◌==◌}
use Rattle.std.specs.Prelude.{codes, map, length}
use Rattle.bundle_syntax.specs.Item.{Item}
use Rattle.bundle_rules.specs.Scopes as s
use Rattle.bundle_rules.specs.Declarations as d
use Rattle.bundle_scope_denote.specs.declared.table.ScopeKind.TheVariants as k
use Rattle.bundle_scope_denote.specs.declared.table.Way.TheVariants as w
use Rattle.bundle_scope_denote.specs.declared.walk.Declaration.{Declaration}
use Rattle.bundle_scope_denote.specs.declared.walk.NameOccurrence.{NameOccurrence}
use Rattle.bundle_scope_denote.specs.declared.walk.Nodes.{Nodes}
use Rattle.bundle_scope_denote.specs.declared.walk.Open.{Open}
use Rattle.bundle_scope_denote.specs.declared.walk.ScopeWalk.{ScopeWalk}
use Rattle.bundle_scope_denote.specs.Kinds.{kind_as, reading_as, is_in_field}
use Rattle.bundle_scope_denote.specs.Numbers.{NumberedScope, AreAround, KeepsNumbers, name_as, numbered_scope}
use Rattle.bundle_scope_denote.specs.Chains.{top_number}
use Rattle.bundle_scope_denote.specs.Walked.{IsMetBefore, IsDeclaredAlone, IsDeclared, IsInnermost, StaysOnce, scope_within}
use Rattle.bundle_scope_denote.specs.Steps.{IsBlank, Starts, StaysInWalk, scopes_of, walk_names, one_by_one, repeated}
use Rattle.bundle_scope_denote.proofs.TidyLemmas.{tidy-module, tidy-wrapped, once-none}

-- the scopes of a CommonJS module outside all nodes
abbrev pub outside : List NumberedScope
outside = record { scope = s.Wrapper; outer = None } ∷ record { scope = s.Top; outer = Some 0 } ∷ []

around_wrapper : AreAround outside (Some 0) (s.Wrapper ∷ [])
around_wrapper = (record { scope = s.Wrapper; outer = None }, refl, refl, tt)

around_top : AreAround outside (Some 1) (s.Top ∷ s.Wrapper ∷ [])
around_top = (record { scope = s.Top; outer = Some 0 }, refl, refl, around_wrapper)

-- a parameter of the module is declared
parameter : (names : List d.Name) (sym : List ℕ) (declaration : Declaration) → IsDeclaredAlone names 0 0 w.Wrapper sym declaration → IsDeclared outside names declaration (d.wrapper_parameter sym)
parameter names sym declaration known = record { place = known.stands; name = known.named; by = known.by; around = subst (λ n. AreAround outside (Some n) (s.Wrapper ∷ [])) (back known.around) around_wrapper }

-- what is known outside all nodes of a module
record IsOutermost (kind : s.ModuleKind) (inner : Open) : Type 0 where
  way : inner.way ≡ None
  variable : inner.variable ≡ None
  around : inner.around ≡ top_number kind
  own : inner.own ≡ None
  block : inner.block ≡ k.Block
  default : inner.is_default ≡ false
  head : inner.head ≡ None
  left : inner.leaves_first_out ≡ false

blank_inner : (walk : ScopeWalk) → IsBlank walk → IsOutermost (kind_as walk.kind) walk.inner
blank_inner walk blank = record { way = blank.way; variable = blank.variable; around = blank.around; own = blank.own; block = blank.block; default = blank.default; head = blank.head; left = blank.left }

known_outside : (scopes : List NumberedScope) (kind : s.ModuleKind) (inner : Open) → AreAround scopes (Some (top_number kind)) (s.outermost kind) → IsOutermost kind inner → IsInnermost scopes kind inner []
known_outside scopes kind inner around is = record {
  way = λ f. is.way;
  variable = λ f. is.variable;
  defaults = λ f. is.default;
  heads = λ f. ap (λ x. is_in_field x f) is.head;
  block = λ f. is.block;
  scope = λ f. subst (λ k. AreAround scopes (Some k) (s.outermost kind)) (back (ap (λ x. scope_within x inner.around (inner.leaves_first_out && f == 0)) is.own ∙ is.around)) around;
}

-- the top of an ECMAScript module
abbrev top_alone : List NumberedScope
top_alone = record { scope = s.Top; outer = None } ∷ []

around_alone : AreAround top_alone (Some 0) (s.Top ∷ [])
around_alone = (record { scope = s.Top; outer = None }, refl, refl, tt)

begins_alone : (reading : d.Reading) (items : List Item) (names : List d.Name) (inner : Open) → IsOutermost s.Es inner → IsMetBefore reading s.Es items 0 top_alone names [] [] (inner ∷ []) 0
begins_alone reading items names inner is = record {
  stands = refl;
  nodes = (known_outside top_alone s.Es inner around_alone is, refl);
  outermost = around_alone;
  declared = record { before = []; each = tt; rest = refl };
  seen = record { before = []; each = tt; rest = refl };
}

-- a parameter keeps its name
later_alone : (names later : List d.Name) (sym : List ℕ) (declaration : Declaration) → KeepsNumbers names later → IsDeclaredAlone names 0 0 w.Wrapper sym declaration → IsDeclaredAlone later 0 0 w.Wrapper sym declaration
later_alone names later sym declaration keeps known = record { stands = known.stands; named = keeps declaration.name (record { sym = sym; ctxt = None }) known.named; by = known.by; around = known.around }

begins_outside : (reading : d.Reading) (items : List Item) (names later : List d.Name) (first second : Declaration) (inner : Open) → IsDeclaredAlone names 0 0 w.Wrapper (codes "module") first → KeepsNumbers names later → IsDeclaredAlone later 0 0 w.Wrapper (codes "exports") second → IsOutermost s.Cjs inner → IsMetBefore reading s.Cjs items 0 outside later (first ∷ second ∷ []) [] (inner ∷ []) 1
begins_outside reading items names later first second inner is_first keeps is_second is = record {
  stands = refl;
  nodes = (known_outside outside s.Cjs inner around_top is, refl);
  outermost = around_top;
  declared = record { before = d.wrapper_parameter (codes "module") ∷ d.wrapper_parameter (codes "exports") ∷ []; each = (parameter later (codes "module") first (later_alone names later (codes "module") first keeps is_first), (parameter later (codes "exports") second is_second, tt)); rest = refl };
  seen = record { before = []; each = tt; rest = refl };
}

-- the same of a walk whose tables these are
at_first : (reading : d.Reading) (kind is : s.ModuleKind) (items : List Item) (scopes table : List NumberedScope) (names : List d.Name) (declarations first : List Declaration) (occurrences : List NameOccurrence) (inner : Open) (more : ℕ) (outer : List Nodes) (top number : ℕ) → kind ≡ is → scopes ≡ table → declarations ≡ first → occurrences ≡ [] → more ≡ 0 → outer ≡ [] → top ≡ number → IsMetBefore reading is items 0 table names first [] (inner ∷ []) number → IsMetBefore reading kind items 0 scopes names declarations occurrences (repeated more inner (inner ∷ one_by_one (reverse outer))) top
at_first reading kind is items scopes table names declarations first occurrences inner more outer top number is_kind is_table is_first is_none is_more is_outer is_number at =
    subst (λ k. IsMetBefore reading k items 0 scopes names declarations occurrences (repeated more inner (inner ∷ one_by_one (reverse outer))) top) (back is_kind)
    (subst (λ l. IsMetBefore reading is items 0 l names declarations occurrences (repeated more inner (inner ∷ one_by_one (reverse outer))) top) (back is_table)
    (subst (λ l. IsMetBefore reading is items 0 table names l occurrences (repeated more inner (inner ∷ one_by_one (reverse outer))) top) (back is_first)
    (subst (λ l. IsMetBefore reading is items 0 table names first l (repeated more inner (inner ∷ one_by_one (reverse outer))) top) (back is_none)
    (subst (λ n. IsMetBefore reading is items 0 table names first [] (repeated n inner (inner ∷ one_by_one (reverse outer))) top) (back is_more)
    (subst (λ l. IsMetBefore reading is items 0 table names first [] (inner ∷ one_by_one (reverse l)) top) (back is_outer)
    (subst (λ n. IsMetBefore reading is items 0 table names first [] (inner ∷ []) n) (back is_number) at))))))

-- an ECMAScript module begins
pub starts_top : (old new : ScopeWalk) → IsBlank old → kind_as old.kind ≡ s.Es → scopes_of new ≡ scopes_of old ++ record { scope = s.Top; outer = None } ∷ [] → walk_names new ≡ walk_names old → new.declarations.items ≡ old.declarations.items → new.occurrences.items ≡ old.occurrences.items → new.inner ≡ old.inner → new.more ≡ old.more → new.outer.items ≡ old.outer.items → StaysInWalk old new → Starts old new
starts_top old new blank kind scopes names declarations occurrences inner more outer stays = record {
  is_at = λ items. at_first (reading_as new.reading) (kind_as new.kind) s.Es items (scopes_of new) top_alone (walk_names new) new.declarations.items [] new.occurrences.items new.inner new.more new.outer.items new.top 0 (ap kind_as stays.kind ∙ kind) table (declarations ∙ blank.declarations) (occurrences ∙ blank.occurrences) (more ∙ blank.more) (outer ∙ blank.outer) (stays.top ∙ blank.top ∙ ap top_number kind) (begins_alone (reading_as new.reading) items (walk_names new) new.inner (subst (IsOutermost s.Es) (back inner) (subst (λ k. IsOutermost k old.inner) kind (blank_inner old blank))));
  tidy = tidy-module (scopes_of new) (walk_names new) table (once-none (walk_names new) (names ∙ ap (map name_as) blank.names));
  stays = stays;
}
  where
    table : scopes_of new ≡ top_alone
    table = scopes ∙ ap (λ l. map numbered_scope l ++ record { scope = s.Top; outer = None } ∷ []) blank.scopes

-- a CommonJS module begins
pub starts_wrapped : (old new : ScopeWalk) (names : List d.Name) (first second : Declaration) (wrapper : ℕ) → IsBlank old → kind_as old.kind ≡ s.Cjs → scopes_of new ≡ (scopes_of old ++ record { scope = s.Wrapper; outer = None } ∷ []) ++ record { scope = s.Top; outer = Some wrapper } ∷ [] → wrapper ≡ length (scopes_of old) → IsDeclaredAlone names 0 wrapper w.Wrapper (codes "module") first → StaysOnce (walk_names old) names → KeepsNumbers names (walk_names new) → StaysOnce names (walk_names new) → IsDeclaredAlone (walk_names new) 0 wrapper w.Wrapper (codes "exports") second → new.declarations.items ≡ (old.declarations.items ++ first ∷ []) ++ second ∷ [] → new.occurrences.items ≡ old.occurrences.items → new.inner ≡ old.inner → new.more ≡ old.more → new.outer.items ≡ old.outer.items → StaysInWalk old new → Starts old new
starts_wrapped old new names first second wrapper blank kind scopes number is_first once keeps still_once is_second declarations occurrences inner more outer stays = record {
  is_at = λ items. at_first (reading_as new.reading) (kind_as new.kind) s.Cjs items (scopes_of new) outside (walk_names new) new.declarations.items (first ∷ second ∷ []) new.occurrences.items new.inner new.more new.outer.items new.top 1 (ap kind_as stays.kind ∙ kind) table (declarations ∙ ap (λ l. (l ++ first ∷ []) ++ second ∷ []) blank.declarations) (occurrences ∙ blank.occurrences) (more ∙ blank.more) (outer ∙ blank.outer) (stays.top ∙ blank.top ∙ ap top_number kind) (begins_outside (reading_as new.reading) items names (walk_names new) first second new.inner (subst (λ k. IsDeclaredAlone names 0 k w.Wrapper (codes "module") first) is_wrapper is_first) keeps (subst (λ k. IsDeclaredAlone (walk_names new) 0 k w.Wrapper (codes "exports") second) is_wrapper is_second) (subst (IsOutermost s.Cjs) (back inner) (subst (λ k. IsOutermost k old.inner) kind (blank_inner old blank))));
  tidy = tidy-wrapped (scopes_of new) (walk_names new) wrapper wrapped is_wrapper (still_once (once (once-none (walk_names old) (ap (map name_as) blank.names))));
  stays = stays;
}
  where
    is_wrapper : wrapper ≡ 0
    is_wrapper = number ∙ ap (λ l. length (map numbered_scope l)) blank.scopes

    wrapped : scopes_of new ≡ (record { scope = s.Wrapper; outer = None } ∷ []) ++ record { scope = s.Top; outer = Some wrapper } ∷ []
    wrapped = scopes ∙ ap (λ l. (map numbered_scope l ++ record { scope = s.Wrapper; outer = None } ∷ []) ++ record { scope = s.Top; outer = Some wrapper } ∷ []) blank.scopes

    table : scopes_of new ≡ outside
    table = wrapped ∙ ap (λ (k : ℕ). record { scope = s.Wrapper; outer = None } ∷ record { scope = s.Top; outer = Some k } ∷ []) is_wrapper
