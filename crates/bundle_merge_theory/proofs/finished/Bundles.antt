-- What is handed out for an entry: a merged bundle, rid of keywords and, where the settings say so,
-- named, as a module or as the call of one function, is the bundle of that entry.
use Rattle.std.proofs.Common.{◌≡◌, ℕ, true, false, List, None, ap, sym, ◌∙◌, subst}
use Rattle.std.specs.Prelude.{if◌then◌else◌}
use Rattle.std.proofs.lemmas.Bool.{false≢true}
use Rattle.bundle_syntax.specs.Item.{Item}
use Rattle.bundle_rules.specs.Scopes.{Es}
use Rattle.bundle_rules.specs.Declarations.{BySymbol, ByContext}
use Rattle.bundle_rules.specs.Doubled.{first_doubled}
use Rattle.bundle_rules.specs.Renaming.{Numbering}
use Rattle.bundle_rules.specs.Cleared.{cleared, tidied}
use Rattle.bundle_rules.specs.Keywords.{keyword_free}
use Rattle.bundle_rules.specs.Rebuilds.{with_idents}
use Rattle.bundle_rules.specs.Nodes.{IsWholeModule}
use Rattle.bundle_rules.specs.Entries.{Settings}
use Rattle.bundle_rules.specs.Program.{Program}
use Rattle.bundle_rules.specs.Kept.{Kept, local_context}
use Rattle.bundle_rules.specs.Faults.{Parties}
use Rattle.bundle_rules.specs.Judging.{Entry, IsProgramOf, AcceptsProgram}
use Rattle.bundle_rules.specs.Bundle.{Cause, Hooks, AsModule, IsBundle, labelled}
use Rattle.bundle_rules.specs.Symbols.{AreCalled}
use Rattle.bundle_rules.specs.Merged.{HasContexts, BindsOwn, IsMerged, IsJoined, ComesOfJoined, IsNamedAs}
use Rattle.bundle_rules.specs.Headline.{reading_of, IsClean}
use Rattle.bundle_scope_names.proofs.naming_rule.Clash.{HasPlainKeys}
use Rattle.bundle_scope_names.proofs.naming_rule.Theorem.{IsUndoubled}
use Rattle.bundle_scope_names.proofs.naming_rule.Transfer.{Calling}
use Rattle.bundle_merge_theory.specs.noted.Listed.{AreListed, Other}
use Rattle.bundle_merge_theory.specs.composed.Noted.{pairing_of}
use Rattle.bundle_merge_theory.specs.finished.Finished.{called_idents, recall}
use Rattle.bundle_merge_theory.specs.finished.Rules.{IsKeywordRule}
use Rattle.bundle_merge_theory.specs.finished.Whole.{named_at_once, AreRightNumbers}
use Rattle.bundle_merge_theory.specs.together.Others.{HasOthersFrom}
use Rattle.bundle_merge_theory.proofs.composed.Theorem.{IsWholeBundle}
use Rattle.bundle_merge_theory.proofs.finished.Numbers.{ready-editable, free-whole, free-listed, bundle-finished, unnamed, unnamed-clean}
use Rattle.bundle_merge_theory.proofs.finished.Modules.{tidied-whole}
use Rattle.bundle_merge_theory.proofs.finished.Rules.{rule-faithful}
use Rattle.bundle_merge_theory.proofs.finished.Tidied.{rid-of-keywords, tidied-bundle}
use Rattle.bundle_merge_theory.proofs.finished.Items.{keywords-keep-merged}

-- a bundle in the form of a module that is named as the settings say, and what it comes of
pub record IsEnded (settings : Settings) (p : Program) (hooks : Hooks) (named : List Item) : Type 0 where
  pub clean : IsClean settings named
  pub undoubled : settings.renames ≡ true → first_doubled Es named ≡ None
  pub is_bundle : IsBundle p hooks AsModule (reading_of settings) named
  pub whole : IsWholeModule named
  pub free : List Item
  pub comes : ComesOfJoined p hooks free
  pub is_merged : IsMerged keyword_free local_context p hooks free
  pub names : IsNamedAs settings.renames free named

-- what a merge owes
pub record IsMergedRight (first : ℕ) (p : Program) (hooks : Hooks) (plan : List Cause) (merged : List Item) : Type 0 where
  pub whole : IsWholeBundle p hooks plan merged
  pub listed : AreListed Other merged
  pub called : AreCalled (λ x. x) p hooks
      (labelled merged ByContext (pairing_of whole.ready.still.labels whole.ready.still.items plan))
      (pairing_of whole.ready.still.labels whole.ready.still.items plan)
  pub contexts : HasContexts (λ x. x) local_context
      (labelled merged ByContext (pairing_of whole.ready.still.labels whole.ready.still.items plan))
  pub others : HasOthersFrom first
      (labelled merged ByContext (pairing_of whole.ready.still.labels whole.ready.still.items plan))
  pub binds : BindsOwn merged

module _ (settings : Settings) (p : Program) (hooks : Hooks) (plan : List Cause) (merged : List Item) (first : ℕ) (its : IsMergedRight first p hooks plan merged) (is_joined : IsJoined p hooks merged) (call : Calling) (rule : IsKeywordRule call merged) where
  is-merged : IsMerged keyword_free local_context p hooks (recall call merged)
  is-merged =
      keywords-keep-merged p hooks plan merged its.whole call rule its.listed local_context
      its.called its.contexts its.binds

  comes-of : ComesOfJoined p hooks (recall call merged)
  comes-of = record {
    joined = merged;
    is_joined = is_joined;
    rid =
        rid-of-keywords call merged its.whole.names its.whole.plain
        (ready-editable p hooks plan merged its.whole.ready)
        (rule-faithful call merged its.whole.names rule) its.whole.resolved rule.calling;
  }

  -- with hygiene
  pub ends-named : settings.renames ≡ true → HasPlainKeys merged → IsUndoubled merged →
      (numbers : Numbering) → AreRightNumbers call merged numbers →
      IsEnded settings p hooks (named_at_once call merged numbers)
  ends-named renames keys undoubled numbers right =
      let end = bundle-finished p hooks plan merged its.whole keys undoubled call rule numbers right its.listed in
      let named : List Item = named_at_once call merged numbers in
      record {
        clean = subst (λ b. named ≡ (if b then cleared named else tidied named)) (sym renames) end.clean;
        undoubled = λ is. end.undoubled;
        is_bundle = subst (λ b. IsBundle p hooks AsModule (if b then BySymbol else ByContext) named) (sym renames) end.is_bundle;
        whole = end.whole_module;
        free = recall call merged;
        comes = comes-of;
        is_merged = is-merged;
        names = subst (λ b. IsNamedAs b (recall call merged) named) (sym renames) end.names;
      }

  -- without hygiene
  pub ends-unnamed : settings.renames ≡ false →
      IsEnded settings p hooks (with_idents (tidied merged) (called_idents call merged))
  ends-unnamed renames =
      let editable = ready-editable p hooks plan merged its.whole.ready in
      let free = free-whole p hooks plan merged its.whole call rule its.listed in
      let is = unnamed call merged editable in
      let named : List Item = with_idents (tidied merged) (called_idents call merged) in
      record {
        clean = unnamed-clean settings renames call merged editable;
        undoubled = λ so. absurd (false≢true (sym renames ∙ so));
        is_bundle =
            subst (λ b. IsBundle p hooks AsModule (if b then BySymbol else ByContext) named)
            (sym renames)
            (subst (IsBundle p hooks AsModule ByContext) (sym is) (tidied-bundle p hooks plan (recall call merged) free (free-listed call merged editable its.listed)));
        whole = subst IsWholeModule (sym is) (tidied-whole p hooks plan ByContext (recall call merged) free.ready.still);
        free = recall call merged;
        comes = comes-of;
        is_merged = is-merged;
        names = subst (λ b. IsNamedAs b (recall call merged) named) (sym renames) is;
      }

module _ (parties : Parties) (settings : Settings) (kept : Kept) (entry : Entry) (p : Program) (its : IsProgramOf kept settings entry p) (accepted : AcceptsProgram p parties) (named : List Item) (end : IsEnded settings p parties.hooks named) where
  same : p.settings ≡ settings
  same = ap (λ (q : Program). q.settings) its.is

  names : IsNamedAs p.settings.renames end.free named
  names = subst (λ (s : Settings). IsNamedAs s.renames end.free named) (sym same) end.names
