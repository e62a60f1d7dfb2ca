-- Theorem of this folder (`call_agrees`, `section`): the notes of a statement's occurrences, one
-- by one and in turn, say what these mean in the module.
-- Used by folder `told` of `bundle_merge_theory`.
use Rattle.std.proofs.Common.{◌≡◌, ℕ, zero, suc, List, [], ◌∷◌, ◌++◌, Option, Some, None, sym, ap, ◌∙◌, subst}
use Rattle.std.specs.Prelude.{Contains, fold, slice_get}
use Rattle.std.specs.List.{cons_option}
use Rattle.std.proofs.lemmas.Option.{none-some}
use Rattle.bundle_syntax.specs.Item as h
use Rattle.bundle_syntax.specs.Item.{Item}
use Rattle.bundle_rules.specs.Places.{Spot, Occurrence, past, start, path_at, occurrence_of, occurrence_at, occurrences_from, occurrences}
use Rattle.bundle_rules.specs.Program.{Program, tree_of}
use Rattle.bundle_rules.specs.Meaning.{ByCall, Load, Known, Replaced, own_sense}
use Rattle.bundle_rules.specs.Scopes.{ModuleKind}
use Rattle.bundle_link.specs.Nested as nested
use Rattle.bundle_merge_theory.specs.noted.Agrees.{IsSpotAt, StandsForCall}
use Rattle.bundle_merge_theory.proofs.noted.Spots.{at-past}
use Rattle.bundle_scope_names.proofs.Kept.{occurrences-append as occurrences_append}
use Rattle.bundle_merge_theory.proofs.noted.Statements.{occurrence_there}
use Rattle.bundle_link_targets.proofs.ListLemmas.{first-there}
use Rattle.bundle_merge_theory.proofs.noted.Agreements.{IsThere, call_head, agrees_call}
use Rattle.bundle_merge_theory.proofs.noted.UsesAgree.{path_next}

-- an occurrence of a part stands in the tree
pub occurrence_in : {tree : List Item} (items tail : List Item) (s : Spot) →
    IsSpotAt tree s (items ++ tail) → (i : ℕ) (o : Occurrence) →
    slice_get (occurrences_from s items) i ≡ Some o →
    (place : ℕ) × (occurrence_at tree place ≡ Some o)
occurrence_in [] tail s at i o e = absurd (none-some o e)
occurrence_in {tree = tree} (x ∷ items) tail s at i o e =
    by (occurrence_of s x) (occurrence_there at) i e
    (occurrence_in items tail (past s x) (at-past x (items ++ tail) at))
  where
    by : (one : Option Occurrence) → occurrence_at tree s.place ≡ one → (i : ℕ) →
        slice_get (cons_option one (occurrences_from (past s x) items)) i ≡ Some o →
        ((i : ℕ) (p : Occurrence) → slice_get (occurrences_from (past s x) items) i ≡ Some p →
        (place : ℕ) × (occurrence_at tree place ≡ Some p)) →
        (place : ℕ) × (occurrence_at tree place ≡ Some o)
    by None is i e more = more i o e
    by (Some p) is zero e more = (s.place, is ∙ e)
    by (Some p) is (suc i) e more = more i o e

-- the occurrences of a tree: those before a part, those in it, those behind it
pub section : {tree : List Item} (items tail : List Item) (s : Spot)
    (at : IsSpotAt tree s (items ++ tail)) →
    occurrences tree
    ≡ occurrences_from start at.front
    ++ (occurrences_from s items ++ occurrences_from (fold past s items) tail)
section items tail s at =
    ap occurrences at.tree_is
    ∙ occurrences_append start at.front (items ++ tail)
    ∙ ap (λ t. occurrences_from start at.front ++ occurrences_from t (items ++ tail))
    (sym at.spot_is)
    ∙ ap (λ l. occurrences_from start at.front ++ l) (occurrences_append s items tail)

-- the name of a literal call that is replaced
pub call_agrees : (pr : Program) (m : ℕ) (nodes : nested.AreNodes (tree_of pr m))
    (kind : ModuleKind) (o : Occurrence) → IsThere pr m nodes o → (begins l : ℕ) →
    o.place ≡ suc begins → Replaced pr m begins (ByCall (Load l)) →
    StandsForCall (own_sense pr m kind) o (Known (Load l))
call_agrees pr m nodes kind o there begins l place is =
    let head = call_head pr m nodes is in
    let path = path_next (tree_of pr m) begins head.0 h.CallExpr head.1 in
    agrees_call pr m nodes kind o there l
    (record { head = h.CallExpr; begins = begins; field = path.0 })
    (subst (λ p. Contains p (record { head = h.CallExpr; begins = begins; field = path.0 }))
    (sym (ap (path_at (tree_of pr m)) place ∙ path.1)) (first-there _ _))
    is
