-- The names that a merged tree gets in one go, by the code's tables: keywords are renamed by their
-- rule, and the numbers are right by the symbols without them.
use Rattle.std.proofs.Common.{◌≡◌, ℕ, List, [], ◌∷◌, Option, map, refl, ap₂, sym, ◌∙◌, string_bytes}
use Rattle.std.specs.Option.{option_map}
use Rattle.std.specs.List.{AllZip}
use Rattle.bundle_syntax.specs.Item.{Item}
use Rattle.bundle_rules.specs.Places.{Occurrence, occurrences}
use Rattle.bundle_rules.specs.Scopes.{Es}
use Rattle.bundle_rules.specs.Declarations.{ByContext}
use Rattle.bundle_rules.specs.Denotes.{Denoted, Bound, Global, IsResolved}
use Rattle.bundle_rules.specs.Renaming.{Numbering}
use Rattle.bundle_rules.specs.Idents.{Ident, ident_of, idents}
use Rattle.bundle_rules.specs.Renamed.{HasNamesOnly}
use Rattle.bundle_scope_denote.specs.declared.table.Binding.{Binding}
use Rattle.bundle_scope_denote.specs.declared.table.Denoted.{Denoted as Entry}
use Rattle.bundle_scope_denote.specs.declared.table.Denotations.{Denotations}
use Rattle.bundle_scope_denote.specs.Listed.{IsDenotationTable}
use Rattle.bundle_scope_names.specs.declared.names.Names.{Names}
use Rattle.bundle_scope_names.specs.declared.names.ContextRule.TheVariants.{Keep, Clear}
use Rattle.bundle_scope_names.specs.Called.{called_in, in_context, keyword_text}
use Rattle.bundle_scope_names.specs.Fresh.{AreContexts}
use Rattle.bundle_scope_names.specs.Turns.{AreBindingsNamed}
use Rattle.bundle_scope_names.proofs.naming_rule.Tables.{IsIn}
use Rattle.bundle_scope_names.proofs.TreeLemmas.{map-map as map-twice}
use Rattle.bundle_scope_names.proofs.naming_rule.Transfer.{Calling}
use Rattle.bundle_scope_names.proofs.numbered.Callings.{called_after}
use Rattle.bundle_scope_names.proofs.numbered.Faith as f
use Rattle.bundle_scope_names.proofs.numbered.NumberingBy as b
use Rattle.bundle_scope_names.proofs.numbered.Whole as w
use Rattle.bundle_merge_theory.specs.finished.Finished.{denoted_by_table, called_idents}
use Rattle.bundle_merge_theory.specs.finished.Numbers.{merged_symbol, named_symbol}
use Rattle.bundle_merge_theory.specs.finished.Rules.{IsKeywordRule}
use Rattle.bundle_merge_theory.specs.finished.Whole.{renamed_idents, AreRightNumbers}
use Rattle.bundle_scope_names.proofs.promised.Keywords.{stay}

-- contexts that are 0
clear : (xs : List Ident) (symbols : List (List ℕ)) → map (λ (i : Ident). i.0) xs ≡ symbols →
    map (in_context Clear) xs ≡ map (λ (x : List ℕ). let i : Ident = (x, 0) in i) symbols
clear [] [] e = refl
clear [] (s ∷ symbols) e = absurd cc
clear (x ∷ xs) [] e = absurd cc
clear (x ∷ xs) (s ∷ symbols) e =
    let first : x.0 ≡ s = cc in
    let later : map (λ (i : Ident). i.0) xs ≡ symbols = cc in
    ap₂ (λ (t : List ℕ) (l : List Ident). let i : Ident = (t, 0) in i ∷ l) first (clear xs symbols later)

-- the symbol that what is denoted has afterwards is said in two ways
after-is : (numbers : Numbering) (call : Calling) (d : Denoted) →
    called_after numbers call d ≡ merged_symbol numbers call d
after-is numbers call (Global x) = refl
after-is numbers call (Bound scope name) = refl

module _ (items : List Item) (only : HasNamesOnly items) (table : Denotations) (t : IsDenotationTable ByContext Es items table) (resolved : IsResolved Es items) (keywords : Names) (texts : map (option_map string_bytes) keywords.texts.items ≡ map (λ (binding : Binding). keyword_text binding.sym.now) table.bindings.items) (contexts : AreContexts items table.bindings.items (map (option_map string_bytes) keywords.texts.items) keywords.contexts.items) where
  abbrev pub call : Calling
  call = w.call items only table t resolved keywords texts contexts

  abbrev os : List Occurrence
  os = occurrences items

  abbrev bindings : List (Option ℕ)
  bindings = map (λ (entry : Entry). entry.binding) table.occurrences.items

  -- keywords are renamed by their rule
  pub rule : IsKeywordRule call items
  rule = record {
    calling = record {
      symbol = f.symbol-right items only table t resolved keywords texts contexts;
      context = f.context-right items only table t resolved keywords texts contexts;
    };
    apart = f.apart items only table t resolved keywords texts contexts;
  }

  called-are : (es : List Entry) (l : List Occurrence) →
      AllZip (λ e o. f.Both items only table t resolved keywords texts contexts e o × IsIn os o) es l →
      called_in keywords (map ident_of l) (map (λ (entry : Entry). entry.binding) es)
      ≡ map (λ (o : Occurrence). call o.sym o.ctxt) l
  called-are [] [] known = refl
  called-are [] (o ∷ l) known = absurd known
  called-are (e ∷ es) [] known = absurd known
  called-are (e ∷ es) (o ∷ l) known =
      ap₂ (λ (x : Ident) (xs : List Ident). x ∷ xs)
      (sym (w.calls items only table t resolved keywords texts contexts e o known.0.0 known.0.1))
      (called-are es l known.1)

  -- without numbers, identifiers are called so
  pub kept-idents : map (in_context Keep) (called_in keywords (idents items) bindings)
      ≡ called_idents call items
  kept-idents =
      stay (called_in keywords (idents items) bindings)
      ∙ called-are table.occurrences.items os
      (f.zipped items only table t resolved keywords texts contexts)

  module _ (names : Names) (named : AreBindingsNamed table items keywords names) where
    abbrev pub numbers : Numbering
    numbers =
        b.numbers items only table t t.order keywords names named call
        (w.calls items only table t resolved keywords texts contexts)
        (w.stays items only table t resolved keywords texts contexts)

    -- the numbers are right
    pub right : AreRightNumbers call items numbers
    right = w.numbers-right items only table t resolved keywords texts contexts t.order names named

    symbols : map (λ (i : Ident). i.0) (called_in names (idents items) bindings)
        ≡ map (named_symbol call items numbers) os
    symbols =
        w.symbols-are items only table t resolved keywords texts contexts t.order names named
        ∙ each os
      where
        each : (l : List Occurrence) →
            map (λ (o : Occurrence). called_after numbers call (denoted_by_table items o)) l
            ≡ map (named_symbol call items numbers) l
        each [] = refl
        each (o ∷ l) =
            ap₂ (λ (x : List ℕ) (xs : List (List ℕ)). x ∷ xs)
            (after-is numbers call (denoted_by_table items o)) (each l)

    -- and identifiers are named by them, without contexts
    pub named-idents : map (in_context Clear) (called_in names (idents items) bindings)
        ≡ renamed_idents call items numbers
    named-idents =
        clear (called_in names (idents items) bindings) (map (named_symbol call items numbers) os)
        symbols
        ∙ map-twice (λ (x : List ℕ). let i : Ident = (x, 0) in i) (named_symbol call items numbers) os
