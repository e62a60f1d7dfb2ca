-- What the two contracts give together: a tree without keywords, by names that tell bindings apart as before, and numbers
-- that are right by its symbols.
use Rattle.std.proofs.Common.{◌≡◌, ℕ, suc, Bool, true, List, [], ◌∷◌, None, map, refl, ap, sym, ◌∙◌, codes, string_bytes}
use Rattle.std.specs.Option.{option_map}
use Rattle.std.specs.List.{AllZip}
use Rattle.bundle_syntax.specs.Item.{Item}
use Rattle.bundle_rules.specs.Places.{Occurrence, occurrences}
use Rattle.bundle_rules.specs.Scopes.{Es, Scope}
use Rattle.bundle_rules.specs.Declarations.{ByContext, Name, Declared, declared}
use Rattle.bundle_rules.specs.Denotes.{denoted_of, IsResolved, DenoteAlike}
use Rattle.bundle_rules.specs.Keywords.{keyword_free_of, IsKeywordFree}
use Rattle.bundle_rules.specs.Idents.{Ident, ident_of, idents}
use Rattle.bundle_rules.specs.Renamed.{HasNamesOnly}
use Rattle.bundle_scope_denote.specs.declared.table.Binding.{Binding}
use Rattle.bundle_scope_denote.specs.declared.table.Denoted.{Denoted as Entry}
use Rattle.bundle_scope_denote.specs.declared.table.Denotations.{Denotations}
use Rattle.bundle_scope_denote.specs.Numbers.{numbered_scope}
use Rattle.bundle_scope_denote.specs.Chains.{AreInOrder}
use Rattle.bundle_scope_denote.specs.Listed.{IsBinding, IsTableEntry, TellsDenoted, IsDenotationTable}
use Rattle.bundle_scope_names.specs.declared.names.Names.{Names}
use Rattle.bundle_scope_names.specs.Called.{binding_text, called_ident, called_in, keyword_text}
use Rattle.bundle_scope_names.specs.Fresh.{AreContexts}
use Rattle.bundle_scope_names.specs.Turns.{AreBindingsNamed}
use Rattle.bundle_scope_names.proofs.naming_rule.Tables.{IsIn, map-congr}
use Rattle.bundle_scope_names.proofs.TreeLemmas.{map-map as map-twice}
use Rattle.bundle_scope_names.proofs.naming_rule.Transfer.{Calling, IsFaithful, named_right_by}
use Rattle.bundle_scope_names.proofs.numbered.Callings.{called_after}
use Rattle.bundle_scope_names.proofs.numbered.Faith as f
use Rattle.bundle_scope_names.proofs.numbered.NumberingBy as b

zip-right : (whole l after : List Occurrence) (call : Calling) → map ident_of after ≡ map (λ (o : Occurrence). call o.sym o.ctxt) l → (right : Occurrence → Ident → Bool) → ((o : Occurrence) → IsIn l o → right o (call o.sym o.ctxt) ≡ true) → AllZip (λ old new. right old (ident_of new) ≡ true) l after
zip-right whole [] [] call e right each = tt
zip-right whole [] (p ∷ ps) call e right each = absurd cc
zip-right whole (o ∷ l) [] call e right each = absurd cc
zip-right whole (o ∷ l) (p ∷ ps) call e right each =
    let first : ident_of p ≡ call o.sym o.ctxt = cc in
    let later : map ident_of ps ≡ map (λ (o : Occurrence). call o.sym o.ctxt) l = cc in
    (ap (right o) first ∙ each o (0, refl), zip-right whole l ps call later right (λ x at. each x (suc at.0, at.1)))

module _ (items : List Item) (only : HasNamesOnly items) (table : Denotations) (t : IsDenotationTable ByContext Es items table) (resolved : IsResolved Es items) (keywords : Names) (texts : map (option_map string_bytes) keywords.texts.items ≡ map (λ (binding : Binding). keyword_text binding.sym.now) table.bindings.items) (contexts : AreContexts items table.bindings.items (map (option_map string_bytes) keywords.texts.items) keywords.contexts.items) where
  -- what an identifier is called
  abbrev pub call : Calling
  call = f.call items only table t resolved keywords texts contexts

  abbrev os : List Occurrence
  os = occurrences items

  abbrev all : List Declared
  all = declared ByContext Es items

  pub calls : (e : Entry) (o : Occurrence) → IsTableEntry (map numbered_scope table.scopes.items) ByContext Es e o × TellsDenoted (map numbered_scope table.scopes.items) table.bindings.items e (denoted_of ByContext Es all o) → IsIn os o → call o.sym o.ctxt ≡ called_ident keywords (o.sym, o.ctxt) e.binding
  calls e o both at =
      let own = f.entry-of items only table t resolved keywords texts contexts o at in
      own.3 ∙ ap (called_ident keywords (o.sym, o.ctxt)) (f.number-one items only table t resolved keywords texts contexts own.0.binding e.binding (denoted_of ByContext Es all o) own.2.0.1 both.1)

  pub stays : (k : ℕ) (scope : Scope) (name : Name) → IsBinding (map numbered_scope table.scopes.items) table.bindings.items k scope name → name.sym ≡ codes "arguments" → binding_text keywords k ≡ None
  stays k scope name is e = f.text-of items only table t resolved keywords texts contexts k is.binding is.at ∙ ap keyword_text (ap (λ (m : Name). m.sym) is.named ∙ e)

  -- identifiers are told apart as before
  pub faithful : IsFaithful call os all
  faithful = f.faithful items only table t resolved keywords texts contexts

  -- a tree with these identifiers has no keyword as a binding's symbol; that it is resolved and denotes alike follows from `faithful`
  pub keyword-free : (after : List Item) → idents after ≡ map (λ (o : Occurrence). call o.sym o.ctxt) os → IsResolved Es after → DenoteAlike ByContext items ByContext after → IsKeywordFree items after
  keyword-free after are again alike = record {
    symbols = sym (map-twice (λ (i : Ident). i.0) ident_of (occurrences after)) ∙ ap (map (λ (i : Ident). i.0)) are ∙ map-twice (λ (i : Ident). i.0) (λ (o : Occurrence). call o.sym o.ctxt) os ∙ map-congr (λ (o : Occurrence). (call o.sym o.ctxt).0) (λ (o : Occurrence). keyword_free_of o.sym (denoted_of ByContext Es all o)) os (f.symbol-right items only table t resolved keywords texts contexts);
    contexts = zip-right os os (occurrences after) call are (f.right_context items only table t resolved keywords texts contexts) (f.context-right items only table t resolved keywords texts contexts);
    resolved = again;
    alike = alike;
  }

  -- each binding has the number that the rule gives by these symbols
  pub numbers-right : (ordered : AreInOrder (map numbered_scope table.scopes.items)) (names : Names) (named : AreBindingsNamed table items keywords names) (d : Declared) → IsIn all d → named_right_by (b.numbers items only table t ordered keywords names named call calls stays) call all os d ≡ true
  numbers-right ordered names named = b.numbers-right items only table t ordered keywords names named call calls stays

  -- and the names give the occurrences the symbols that follow
  pub symbols-are : (ordered : AreInOrder (map numbered_scope table.scopes.items)) (names : Names) (named : AreBindingsNamed table items keywords names) → map (λ (i : Ident). i.0) (called_in names (map (λ (o : Occurrence). (o.sym, o.ctxt)) os) (map (λ (e : Entry). e.binding) table.occurrences.items)) ≡ map (λ (o : Occurrence). called_after (b.numbers items only table t ordered keywords names named call calls stays) call (denoted_of ByContext Es all o)) os
  symbols-are ordered names named = b.symbols-are items only table t ordered keywords names named call calls stays
