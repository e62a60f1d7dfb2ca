-- What is made of a tree by the names of the naming rule, its contexts cleared, has the names that are promised.
use Rattle.std.proofs.Common.{◌≡◌, ℕ, suc, List, [], ◌∷◌, Option, None, map, length, refl, ap, ap₂, sym, ◌∙◌, arith}
use Rattle.std.proofs.lemmas.List.{length-map}
use Rattle.bundle_syntax.specs.declared.piece.Role.TheVariants as r
use Rattle.bundle_syntax.specs.Item as h
use Rattle.bundle_syntax.specs.Item.{Item}
use Rattle.bundle_rules.specs.Places.{occurrences}
use Rattle.bundle_rules.specs.Scopes.{Es}
use Rattle.bundle_rules.specs.Declarations.{ByContext}
use Rattle.bundle_rules.specs.Denotes.{IsResolved}
use Rattle.bundle_rules.specs.Doubled.{first_doubled}
use Rattle.bundle_rules.specs.Renaming.{IsRenamed}
use Rattle.bundle_rules.specs.Cleared.{cleared, cleared_item, without_notes, tidied}
use Rattle.bundle_rules.specs.Idents.{Ident, ident_of, idents}
use Rattle.bundle_rules.specs.Rebuilds.{with_idents}
use Rattle.bundle_rules.specs.Renamed.{HasNamesOnly, IsNamed}
use Rattle.bundle_scope_denote.specs.declared.table.Denoted.{Denoted as Entry}
use Rattle.bundle_scope_denote.specs.declared.table.Denotations.{Denotations}
use Rattle.bundle_scope_denote.specs.Listed.{IsDenotationTable}
use Rattle.bundle_scope_names.specs.declared.names.Names.{Names}
use Rattle.bundle_scope_names.specs.declared.names.ContextRule.TheVariants.{Clear}
use Rattle.bundle_scope_names.specs.Called.{binding_text, context_of, called_in, in_context}
use Rattle.bundle_scope_names.specs.Turns.{AreBindingsNamed}
use Rattle.bundle_scope_names.proofs.TreeLemmas.{map-map as map-twice}
use Rattle.bundle_scope_names.proofs.naming_rule.Rebuilt.{ArePlain}
use Rattle.bundle_scope_names.proofs.naming_rule.Clash.{HasPlainKeys}
use Rattle.bundle_scope_names.proofs.naming_rule.Theorem.{IsUndoubled, none-doubled, is-named}
use Rattle.bundle_scope_names.proofs.numbered.Numbering.{is-renamed}
use Rattle.bundle_scope_names.proofs.promised.Idents.{names_in, idents-are, idents-given}
use Rattle.bundle_scope_names.proofs.Told.{zip-length as length-zip}

-- Contexts that are 0.

-- a tree whose occurrences have the context 0 is cleared once it is tidy
tidied-clear : (l : List Item) → map (in_context Clear) (names_in l) ≡ names_in l → tidied l ≡ cleared l
tidied-clear [] e = refl
tidied-clear (h.Open field head ∷ l) e = ap (λ (rest : List Item). cleared_item (h.Open field head) ∷ rest) (tidied-clear l e)
tidied-clear (h.Hole field ∷ l) e = ap (λ (rest : List Item). h.Hole field ∷ rest) (tidied-clear l e)
tidied-clear (h.Close ∷ l) e = ap (λ (rest : List Item). h.Close ∷ rest) (tidied-clear l e)
tidied-clear (h.Ident field x c r.Word ∷ l) e = ap (λ (rest : List Item). h.Ident field x 0 r.Word ∷ rest) (tidied-clear l e)
tidied-clear (h.Ident field x c r.Binding ∷ l) e =
    let first : in_context Clear (x, c) ≡ (x, c) = cc in
    let later : map (in_context Clear) (names_in l) ≡ names_in l = cc in
    ap₂ (λ (n : ℕ) (rest : List Item). h.Ident field x n r.Binding ∷ rest) (sym (ap (λ (i : Ident). i.1) first)) (tidied-clear l later)
tidied-clear (h.Ident field x c r.Reference ∷ l) e =
    let first : in_context Clear (x, c) ≡ (x, c) = cc in
    let later : map (in_context Clear) (names_in l) ≡ names_in l = cc in
    ap₂ (λ (n : ℕ) (rest : List Item). h.Ident field x n r.Reference ∷ rest) (sym (ap (λ (i : Ident). i.1) first)) (tidied-clear l later)

-- notes and the contexts of plain words are no identifiers
names-unnoted : (l : List Item) → names_in (without_notes l) ≡ names_in l
names-unnoted [] = refl
names-unnoted (h.Open field head ∷ l) = names-unnoted l
names-unnoted (h.Hole field ∷ l) = names-unnoted l
names-unnoted (h.Close ∷ l) = names-unnoted l
names-unnoted (h.Ident field x c r.Word ∷ l) = names-unnoted l
names-unnoted (h.Ident field x c r.Binding ∷ l) = ap (λ (more : List Ident). (x, c) ∷ more) (names-unnoted l)
names-unnoted (h.Ident field x c r.Reference ∷ l) = ap (λ (more : List Ident). (x, c) ∷ more) (names-unnoted l)

names-tidied : (l : List Item) → names_in (tidied l) ≡ names_in l
names-tidied [] = refl
names-tidied (h.Open field head ∷ l) = names-tidied l
names-tidied (h.Hole field ∷ l) = names-tidied l
names-tidied (h.Close ∷ l) = names-tidied l
names-tidied (h.Ident field x c r.Word ∷ l) = names-tidied l
names-tidied (h.Ident field x c r.Binding ∷ l) = ap (λ (more : List Ident). (x, c) ∷ more) (names-tidied l)
names-tidied (h.Ident field x c r.Reference ∷ l) = ap (λ (more : List Ident). (x, c) ∷ more) (names-tidied l)

-- As many identifiers as there were.

length-called : (names : Names) (olds : List Ident) (bindings : List (Option ℕ)) → length bindings ≡ length olds → length (called_in names olds bindings) ≡ length olds
length-called names [] [] e = refl
length-called names [] (b ∷ bs) e = refl
length-called names (o ∷ os) [] e = absurd (omega (arith, e))
length-called names (o ∷ os) (b ∷ bs) e = let rest : length bs ≡ length os = omega (arith, e) in ap suc (length-called names os bs rest)

module _ (items : List Item) (only : HasNamesOnly items) (table : Denotations) (t : IsDenotationTable ByContext Es items table) (kept names : Names) (none : (k : ℕ) → binding_text kept k ≡ None) (no_context : (k : ℕ) → context_of kept k ≡ None) (named : AreBindingsNamed table items kept names) (after : List Item) (is : without_notes after ≡ tidied (with_idents items (map (in_context Clear) (called_in names (idents items) (map (λ (entry : Entry). entry.binding) table.occurrences.items))))) where
  abbrev bindings : List (Option ℕ)
  bindings = map (λ (entry : Entry). entry.binding) table.occurrences.items

  abbrev news : List Ident
  news = map (in_context Clear) (called_in names (idents items) bindings)

  many : length news ≡ length (idents items)
  many =
      length-map (called_in names (idents items) bindings) (in_context Clear)
      ∙ length-called names (idents items) bindings (length-map table.occurrences.items (λ (entry : Entry). entry.binding) ∙ length-zip _ table.occurrences.items (occurrences items) t.occurrences ∙ sym (length-map (occurrences items) ident_of))

  made : names_in (with_idents items news) ≡ news
  made = sym (idents-are (with_idents items news)) ∙ idents-given items news many

  -- each identifier has the new symbol, and the context 0
  pub calls : idents after ≡ map (in_context Clear) (called_in names (idents items) (map (λ (entry : Entry). entry.binding) table.occurrences.items))
  calls = idents-are after ∙ sym (names-unnoted after) ∙ ap names_in is ∙ names-tidied (with_idents items news) ∙ made

  -- nothing else changes, but for notes, and each context is 0
  pub form : without_notes after ≡ cleared (with_idents items (idents after))
  form =
      is
      ∙ tidied-clear (with_idents items news) (ap (map (in_context Clear)) made ∙ map-twice (in_context Clear) (in_context Clear) (called_in names (idents items) bindings) ∙ sym made)
      ∙ ap (λ (l : List Ident). cleared (with_idents items l)) (sym calls)

  -- the symbols are those of the naming rule
  pub renamed : IsRenamed items after
  renamed = is-renamed items only table t kept names none no_context named after (sym (map-twice (λ (i : Ident). i.0) ident_of (occurrences after)) ∙ ap (map (λ (i : Ident). i.0)) calls ∙ map-twice (λ (i : Ident). i.0) (in_context Clear) (called_in names (idents items) bindings))

  -- names are kept by names alone, and none is changed without need
  pub names-kept : IsResolved Es items → ArePlain items → IsNamed items after
  names-kept resolved plain = is-named items after resolved only plain renamed form

  -- and no name is declared twice
  pub undoubled : IsResolved Es items → ArePlain items → HasPlainKeys items → IsUndoubled items → first_doubled Es after ≡ None
  undoubled resolved plain keys none = none-doubled items after resolved only plain keys none renamed form
