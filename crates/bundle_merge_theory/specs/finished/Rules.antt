-- How keywords are renamed, said of identifiers.
use Rattle.std.specs.Prelude.{◌≡◌, ◌&&◌, not, true, List, bytes_eq}
use Rattle.bundle_syntax.specs.Item.{Item}
use Rattle.bundle_rules.specs.Places.{Occurrence, occurrences}
use Rattle.bundle_rules.specs.Keywords.{has_ident}
use Rattle.bundle_scope_names.proofs.naming_rule.Tables.{IsIn}
use Rattle.bundle_scope_names.proofs.naming_rule.Transfer.{Calling}
use Rattle.bundle_merge_theory.specs.finished.Finished.{IsKeywordCalling}

-- an identifier takes a context anew: with its new symbol its own context is that of another
abbrev pub IsAnew : Calling → List Item → Occurrence → Type 0
IsAnew call tree o =
    (not (bytes_eq o.sym (call o.sym o.ctxt).0)
    && has_ident (occurrences tree) (call o.sym o.ctxt).0 o.ctxt) ≡ true

-- the rule for keywords; and contexts that are taken anew differ
pub record IsKeywordRule (call : Calling) (tree : List Item) : Type 0 where
  pub calling : IsKeywordCalling call tree
  pub apart : (o p : Occurrence) → IsIn (occurrences tree) o → IsIn (occurrences tree) p →
      IsAnew call tree o → IsAnew call tree p → (call o.sym o.ctxt).1 ≡ (call p.sym p.ctxt).1 →
      (o.sym ≡ p.sym) × (o.ctxt ≡ p.ctxt)
