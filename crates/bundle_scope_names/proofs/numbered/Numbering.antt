-- The names that are given to a tree whose bindings keep their own before: the numbers that the turns give are those of the
-- naming rule.
use Rattle.std.proofs.Common.{◌≡◌, ℕ, zero, suc, ◌&&◌, ◌||◌, not, Bool, cond, List, Option, Some, None, map, unwrap_or, bytes_eq, codes, refl, ap, ap₂, sym, ◌∙◌}
use Rattle.std.specs.List.{list_any}
use Rattle.bundle_syntax.specs.Item.{Item}
use Rattle.bundle_rules.specs.Places.{Occurrence, occurrences}
use Rattle.bundle_rules.specs.Scopes.{Es, Scope, same_scope, scopes_around}
use Rattle.bundle_rules.specs.Declarations.{ByContext, Name, Declared, declared}
use Rattle.bundle_rules.specs.Homes.{home_of, is_arguments}
use Rattle.bundle_rules.specs.Denotes.{Denoted, Bound, Global, denoted_of}
use Rattle.bundle_rules.specs.Idents.{Ident}
use Rattle.bundle_rules.specs.Renaming.{Numbering, numbered as numbered_text, number_of, keeps, comes_before, group, is_kept_beside, is_kept_outside, is_needed_by, may_keep, is_taken, are_taken_to, is_least_free, is_named_right, IsNumbering, is_written, symbol_after, symbols_after, IsRenamed}
use Rattle.bundle_rules.specs.Renamed.{HasNamesOnly}
use Rattle.bundle_scope_denote.specs.declared.table.Denoted.{Denoted as Entry}
use Rattle.bundle_scope_denote.specs.declared.table.Denotations.{Denotations}
use Rattle.bundle_scope_denote.specs.Numbers.{numbered_scope}
use Rattle.bundle_scope_denote.specs.Listed.{IsBinding, IsTableEntry, TellsDenoted, IsDenotationTable}
use Rattle.bundle_scope_names.specs.declared.names.Names.{Names}
use Rattle.bundle_scope_names.specs.Called.{binding_text, context_of, called_ident, called_in}
use Rattle.bundle_scope_names.specs.Turns.{AreBindingsNamed}
use Rattle.bundle_scope_names.proofs.naming_rule.Tables.{IsIn}
use Rattle.bundle_scope_names.proofs.naming_rule.Clash.{any-congr, are-numbers}
use Rattle.bundle_scope_names.proofs.naming_rule.Transfer.{Calling, called_symbol, beside_by, needed_by, may_keep_by, new_symbol, taken_by, taken_to_by, least_free_by, named_right_by}
use Rattle.bundle_scope_names.proofs.numbered.Callings.{called_after}
use Rattle.bundle_scope_names.proofs.numbered.NumberingBy as b

-- each identifier stays
abbrev pub own : Calling
own x c = (x, c)

own-symbol : (name : Name) → called_symbol own name ≡ name.sym
own-symbol name = by name.ctxt refl
  where
    by : (c : Option ℕ) → name.ctxt ≡ c → called_symbol own name ≡ name.sym
    by None is = ap (λ c. called_symbol own (record { sym = name.sym; ctxt = c })) is
    by (Some c) is = ap (λ c. called_symbol own (record { sym = name.sym; ctxt = c })) is

-- Where each stays, the rule by new symbols is the rule.

module _ (numbers : Numbering) (os : List Occurrence) (all : List Declared) where
  may-own : (d : Declared) → may_keep_by numbers own all os d ≡ may_keep numbers all os d
  may-own d =
      ap (λ x. not (is_arguments x) && not (list_any (beside_by numbers own all d) all) && not (list_any (needed_by numbers own all d) os)) (own-symbol d.name)
      ∙ ap₂ (λ (v : Bool) (w : Bool). not (is_arguments d.name.sym) && not v && not w)
      (any-congr (beside_by numbers own all d) (is_kept_beside numbers all d) all (λ a at. ap₂ (λ (x : List ℕ) (y : List ℕ). same_scope (group a) (group d) && bytes_eq x y && comes_before all a d && keeps numbers all a) (own-symbol a.name) (own-symbol d.name)))
      (any-congr (needed_by numbers own all d) (is_needed_by numbers all (home_of all d) d.name.sym) os (λ o at. ap (λ x. bytes_eq o.sym x && list_any (same_scope (home_of all d)) (scopes_around Es o.path) && is_kept_outside numbers (home_of all d) (denoted_of ByContext Es all o)) (own-symbol d.name)))

  taken-own : (d : Declared) (x : List ℕ) → taken_by numbers own all os d x ≡ is_taken numbers all os d x
  taken-own d x = ap (λ v. list_any (λ (o : Occurrence). bytes_eq o.sym x) os || v) (any-congr (λ a. comes_before all a d && bytes_eq (new_symbol numbers own all a) x) (λ a. comes_before all a d && bytes_eq (numbered_text a.name.sym (number_of numbers all a)) x) all (λ a at. ap (λ y. comes_before all a d && bytes_eq (numbered_text y (number_of numbers all a)) x) (own-symbol a.name)))

  to-own : (d : Declared) (k : ℕ) → taken_to_by numbers own all os d k ≡ are_taken_to numbers all os d k
  to-own d zero = refl
  to-own d (suc k) = ap₂ (λ (v : Bool) (w : Bool). v && w) (ap (λ y. taken_by numbers own all os d (numbered_text y (suc k))) (own-symbol d.name) ∙ taken-own d (numbered_text d.name.sym (suc k))) (to-own d k)

  least-own : (d : Declared) (k : ℕ) → least_free_by numbers own all os d k ≡ is_least_free numbers all os d k
  least-own d zero = refl
  least-own d (suc k) = ap₂ (λ (v : Bool) (w : Bool). not v && w) (ap (λ y. taken_by numbers own all os d (numbered_text y (suc k))) (own-symbol d.name) ∙ taken-own d (numbered_text d.name.sym (suc k))) (to-own d k)

  right-own : (d : Declared) → named_right_by numbers own all os d ≡ is_named_right numbers all os d
  right-own d = ap₂ (λ (v : Bool) (w : Bool). cond v (keeps numbers all d) w) (may-own d) (least-own d (number_of numbers all d))

after-own : (numbers : Numbering) (d : Denoted) → called_after numbers own d ≡ symbol_after numbers d
after-own numbers (Global x) = refl
after-own numbers (Bound scope name) = ap (λ x. cond (is_written name) (numbered_text x (numbers scope name)) name.sym) (own-symbol name)

map-same : {A B : Type 0} (g h : A → B) (xs : List A) → ((x : A) → g x ≡ h x) → map g xs ≡ map h xs
map-same g h xs same = ap (λ f. map f xs) (λ i x. same x i)

-- The names of a table whose bindings keep their own before.

module _ (items : List Item) (only : HasNamesOnly items) (table : Denotations) (t : IsDenotationTable ByContext Es items table) (kept names : Names) (none : (k : ℕ) → binding_text kept k ≡ None) (no_context : (k : ℕ) → context_of kept k ≡ None) (named : AreBindingsNamed table items kept names) where
  abbrev os : List Occurrence
  os = occurrences items

  abbrev all : List Declared
  all = declared ByContext Es items

  pub calls : (e : Entry) (o : Occurrence) → IsTableEntry (map numbered_scope table.scopes.items) ByContext Es e o × TellsDenoted (map numbered_scope table.scopes.items) table.bindings.items e (denoted_of ByContext Es all o) → IsIn os o → own o.sym o.ctxt ≡ called_ident kept (o.sym, o.ctxt) e.binding
  calls e o both at = by e.binding
    where
      by : (b : Option ℕ) → own o.sym o.ctxt ≡ called_ident kept (o.sym, o.ctxt) b
      by None = refl
      by (Some k) = ap₂ (λ (x : Option (List ℕ)) (c : Option ℕ). let i : Ident = (unwrap_or x o.sym, unwrap_or c o.ctxt) in i) (sym (none k)) (sym (no_context k))

  pub stays : (k : ℕ) (scope : Scope) (name : Name) → IsBinding (map numbered_scope table.scopes.items) table.bindings.items k scope name → name.sym ≡ codes "arguments" → binding_text kept k ≡ None
  stays k scope name is e = none k

  abbrev pub numbers : Numbering
  numbers = b.numbers items only table t t.order kept names named own calls stays

  -- the numbers that the turns give are those of the rule
  pub is-numbering : IsNumbering items numbers
  is-numbering = are-numbers items numbers (λ d at. sym (right-own numbers os all d) ∙ b.numbers-right items only table t t.order kept names named own calls stays d at)

  -- the symbols that the names give to the occurrences are those of the numbering
  pub symbols-are : map (λ (i : Ident). i.0) (called_in names (map (λ (o : Occurrence). (o.sym, o.ctxt)) os) (map (λ (e : Entry). e.binding) table.occurrences.items)) ≡ symbols_after items numbers
  symbols-are = b.symbols-are items only table t t.order kept names named own calls stays ∙ map-same (λ (o : Occurrence). called_after numbers own (denoted_of ByContext Es all o)) (λ (o : Occurrence). symbol_after numbers (denoted_of ByContext Es all o)) os (λ o. after-own numbers (denoted_of ByContext Es all o))

  -- a tree with these symbols is renamed by the rule
  pub is-renamed : (renamed : List Item) → map (λ (o : Occurrence). o.sym) (occurrences renamed) ≡ map (λ (i : Ident). i.0) (called_in names (map (λ (o : Occurrence). (o.sym, o.ctxt)) os) (map (λ (e : Entry). e.binding) table.occurrences.items)) → IsRenamed items renamed
  is-renamed renamed is = record { numbers = numbers; right = is-numbering; symbols = is ∙ symbols-are }
