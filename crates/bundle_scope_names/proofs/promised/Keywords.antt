-- What is made of a tree by the names that keywords ask for is rid of keywords.
use Rattle.std.proofs.Common.{◌≡◌, List, [], ◌∷◌, map, refl, ap, ap₂, sym, ◌∙◌, string_bytes}
use Rattle.std.specs.Option.{option_map}
use Rattle.std.specs.List.{AllZip}
use Rattle.std.proofs.lemmas.List.{length-map}
use Rattle.bundle_syntax.specs.Item.{Item}
use Rattle.bundle_rules.specs.Places.{Occurrence, occurrences}
use Rattle.bundle_rules.specs.Scopes.{Es}
use Rattle.bundle_rules.specs.Declarations.{ByContext}
use Rattle.bundle_rules.specs.Denotes.{IsResolved}
use Rattle.bundle_rules.specs.Idents.{Ident, ident_of, idents}
use Rattle.bundle_rules.specs.Rebuilds.{with_idents}
use Rattle.bundle_rules.specs.Renamed.{HasNamesOnly, IsRebuilt, IsRidOfKeywords}
use Rattle.bundle_scope_denote.specs.declared.table.Binding.{Binding}
use Rattle.bundle_scope_denote.specs.declared.table.Denoted.{Denoted as Entry}
use Rattle.bundle_scope_denote.specs.declared.table.Denotations.{Denotations}
use Rattle.bundle_scope_denote.specs.Listed.{IsDenotationTable}
use Rattle.bundle_scope_names.specs.declared.names.Names.{Names}
use Rattle.bundle_scope_names.specs.declared.names.ContextRule.TheVariants.{Keep}
use Rattle.bundle_scope_names.specs.Called.{called_in, in_context, keyword_text}
use Rattle.bundle_scope_names.specs.Fresh.{AreContexts}
use Rattle.bundle_scope_names.proofs.naming_rule.Tables.{IsIn}
use Rattle.bundle_scope_names.proofs.naming_rule.Rebuilt.{ArePlain, faithful-alike, faithful-resolved, faithful-names}
use Rattle.bundle_scope_names.proofs.naming_rule.Theorem.{IsUndoubled, faithful-undoubled}
use Rattle.bundle_scope_names.proofs.naming_rule.Transfer.{Calling}
use Rattle.bundle_scope_names.proofs.numbered.Faith as f
use Rattle.bundle_scope_names.proofs.numbered.Whole as w
use Rattle.bundle_scope_names.proofs.promised.Idents.{idents-given}

pub stay : (xs : List Ident) → map (in_context Keep) xs ≡ xs
stay [] = refl
stay (x ∷ xs) = ap (λ (l : List Ident). x ∷ l) (stay xs)

module _ (items : List Item) (only : HasNamesOnly items) (plain : ArePlain items) (table : Denotations) (t : IsDenotationTable ByContext Es items table) (resolved : IsResolved Es items) (keywords : Names) (texts : map (option_map string_bytes) keywords.texts.items ≡ map (λ (binding : Binding). keyword_text binding.sym.now) table.bindings.items) (contexts : AreContexts items table.bindings.items (map (option_map string_bytes) keywords.texts.items) keywords.contexts.items) (after : List Item) (is : after ≡ with_idents items (map (in_context Keep) (called_in keywords (idents items) (map (λ (entry : Entry). entry.binding) table.occurrences.items)))) where
  abbrev call : Calling
  call = w.call items only table t resolved keywords texts contexts

  abbrev os : List Occurrence
  os = occurrences items

  called-are : (es : List Entry) (l : List Occurrence) → AllZip (λ e o. f.Both items only table t resolved keywords texts contexts e o × IsIn os o) es l → called_in keywords (map ident_of l) (map (λ (entry : Entry). entry.binding) es) ≡ map (λ (o : Occurrence). call o.sym o.ctxt) l
  called-are [] [] known = refl
  called-are [] (o ∷ l) known = absurd known
  called-are (e ∷ es) [] known = absurd known
  called-are (e ∷ es) (o ∷ l) known = ap₂ (λ (x : Ident) (xs : List Ident). x ∷ xs) (sym (w.calls items only table t resolved keywords texts contexts e o known.0.0 known.0.1)) (called-are es l known.1)

  given : after ≡ with_idents items (map (λ (o : Occurrence). call o.sym o.ctxt) os)
  given = is ∙ ap (with_idents items) (stay (called_in keywords (idents items) (map (λ (entry : Entry). entry.binding) table.occurrences.items)) ∙ called-are table.occurrences.items os (f.zipped items only table t resolved keywords texts contexts))

  -- each identifier is called as its binding
  pub calls : idents after ≡ map (λ (o : Occurrence). call o.sym o.ctxt) os
  calls = ap idents given ∙ idents-given items (map (λ (o : Occurrence). call o.sym o.ctxt) os) (length-map os (λ (o : Occurrence). call o.sym o.ctxt) ∙ sym (length-map os ident_of))

  -- and nothing else changes but what is spelled out
  pub same : IsRebuilt items after
  same = given ∙ ap (with_idents items) (sym calls)

  -- the renaming of keywords, as it is promised
  pub rid : IsRidOfKeywords items after
  rid = record {
    same = same;
    free = w.keyword-free items only table t resolved keywords texts contexts after calls
        (faithful-resolved call items after only plain (w.faithful items only table t resolved keywords texts contexts) same calls resolved)
        (faithful-alike call items after only plain (w.faithful items only table t resolved keywords texts contexts) same calls);
  }

  -- each declaration has an identifier still
  pub names-only : HasNamesOnly after
  names-only = faithful-names call items after only plain (w.faithful items only table t resolved keywords texts contexts) same calls

  -- and none is doubled, where none was
  pub undoubled : IsUndoubled items → IsUndoubled after
  undoubled none = faithful-undoubled call items after only plain (w.faithful items only table t resolved keywords texts contexts) same calls none
