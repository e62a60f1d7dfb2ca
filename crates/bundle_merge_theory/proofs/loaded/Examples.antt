-- Small modules: `arguments`, `var exports`, and that what is asked can be met.
use Rattle.std.proofs.Common.{◌≡◌, ℕ, zero, suc, ◌+◌, ◌==◌, Bool, true, false, cond, List, [], ◌∷◌, ◌++◌, Some, None, slice_get, is_some, bytes_eq, inl, ◌&&◌, arith, refl, ap, sym, ◌∙◌, codes}
use Rattle.std.proofs.lemmas.Option.{none-some, same_Some}
use Rattle.bundle_syntax.specs.declared.kind.VarDeclKind.{VarDeclKind}
use Rattle.bundle_syntax.specs.declared.kind.VarDeclKind.TheVariants.{Var, Let}
use Rattle.bundle_syntax.specs.declared.piece.Role.TheVariants.{Binding, Reference}
use Rattle.bundle_syntax.specs.Item as h
use Rattle.bundle_syntax.specs.Item.{Item}
use Rattle.bundle_rules.specs.Scopes.{Es, Cjs, Scope, ScopeKind, scope_order, Wrapper, Top, Inner, Parameters, FunctionBody}
use Rattle.bundle_rules.specs.Declarations.{BySymbol, ByContext, ByLet, Name, Declared, names_agree}
use Rattle.bundle_rules.specs.Doubled.{first_doubled}
use Rattle.bundle_rules.specs.Denotes.{Denoted, Bound, Global, denotations, denoted_of}
use Rattle.bundle_rules.specs.Idents.{Ident}
use Rattle.bundle_rules.specs.Statements.{no_notes}
use Rattle.bundle_rules.specs.Parts.{tree_of_items}
use Rattle.bundle_scope_names.proofs.Numbering.{Numbering, context_of}
use Rattle.bundle_scope_names.proofs.FoundLemmas.{plain, with}
use Rattle.bundle_rules.specs.Homes.{from_taker, nearest, is_arguments}
use Rattle.bundle_scope_names.proofs.HomesLemmas.{Each}
use Rattle.bundle_rules.specs.Symbols.{denoted_symbol}
use Rattle.bundle_merge_theory.specs.loaded.Kept.{IsDeclarationTaken}
use Rattle.bundle_merge_theory.specs.loaded.Turned.{called, Turned, over, begun, ended, named}
use Rattle.bundle_merge_theory.specs.loaded.Item.{load_item}
use Rattle.bundle_merge_theory.specs.loaded.Loaded.{module_declared, IsLoadedItem, module_names}
use Rattle.bundle_merge_theory.specs.loaded.Pieces.{Pieced, no_more, one_more}
use Rattle.bundle_merge_theory.specs.loaded.Contexts.{GivesLocal}
use Rattle.bundle_merge_theory.proofs.loaded.Pieces.{together}
use Rattle.bundle_merge_theory.proofs.loaded.Noted.{IsStrange, AreKnown, all-noted}
use Rattle.bundle_merge_theory.specs.joined.Joined.{is_item_top_name}
use Rattle.bundle_merge_theory.specs.joined.Notes.{IsListedIn, IsOccurrenceNoted}
use Rattle.bundle_rules.specs.Places.{Occurrence}
use Rattle.bundle_merge_theory.proofs.loaded.Parameters.{tells-apart}
use Rattle.bundle_merge_theory.proofs.joined.Bindings.{scope_in}

-- `load#9`, `helper#8`, and the parameters of a module with the local context 7
abbrev items_of : List Item → List Item
items_of made =
    load_item (codes "load", 9) (codes "helper", 8) (codes "module", 7) (codes "exports", 7) made

-- a statement that is just a name
abbrev name_statement : List ℕ → ℕ → List Item
name_statement x c = h.Open 0 h.ExprStmt ∷ h.Ident 0 x c Reference ∷ h.Close ∷ []

-- `arguments;` denotes the wrapper's in the module
arguments_there : denotations BySymbol Cjs (tree_of_items (name_statement (codes "arguments") 0))
    ≡ Bound Wrapper (plain (codes "arguments")) ∷ []
arguments_there = refl

-- with the local context it denotes the function's in the item
arguments_here : denotations ByContext Es
    (tree_of_items (items_of (name_statement (codes "arguments") 7)))
    ≡ Bound Top (with (codes "load") 9) ∷ Global (codes "helper")
    ∷ Bound (Inner Parameters 10) (with (codes "module") 7)
    ∷ Bound (Inner Parameters 10) (with (codes "exports") 7)
    ∷ Bound (Inner Parameters 10) (plain (codes "arguments")) ∷ []
arguments_here = refl

-- with the context of globals it would denote a global
arguments_lost : denotations ByContext Es
    (tree_of_items (items_of (name_statement (codes "arguments") 1)))
    ≡ Bound Top (with (codes "load") 9) ∷ Global (codes "helper")
    ∷ Bound (Inner Parameters 10) (with (codes "module") 7)
    ∷ Bound (Inner Parameters 10) (with (codes "exports") 7) ∷ Global (codes "arguments") ∷ []
arguments_lost = refl

-- `var x;` or `let x;`
abbrev variable : VarDeclKind → List ℕ → ℕ → List Item
variable kind x c =
    h.Open 0 (h.VarDecl kind no_notes) ∷ h.Open 1 h.VarDeclarator ∷ h.Open 0 h.BindingIdent
    ∷ h.Ident 0 x c Binding ∷ h.Close ∷ h.Close ∷ h.Close ∷ []

-- `var exports;` is the parameter, in the module and in the item; `var other;` belongs to the top
-- and to the body
joins_there : denotations BySymbol Cjs
    (tree_of_items (variable Var (codes "exports") 0 ++ variable Var (codes "other") 0))
    ≡ Bound Wrapper (plain (codes "exports")) ∷ Bound Top (plain (codes "other")) ∷ []
joins_there = refl

joins_here : denotations ByContext Es
    (tree_of_items (items_of (variable Var (codes "exports") 7
    ++ variable Var (codes "other") 7))) ≡ Bound Top (with (codes "load") 9)
    ∷ Global (codes "helper") ∷ Bound (Inner Parameters 10) (with (codes "module") 7)
    ∷ Bound (Inner Parameters 10) (with (codes "exports") 7)
    ∷ Bound (Inner Parameters 10) (with (codes "exports") 7)
    ∷ Bound (Inner FunctionBody 21) (with (codes "other") 7) ∷ []
joins_here = refl

-- `let exports;` would be a second binding of one symbol and context; it is doubled
let_doubled : first_doubled Cjs (tree_of_items (variable Let (codes "exports") 0))
    ≡ Some (record {
      place = 4;
      name = plain (codes "exports");
      by = ByLet;
      scopes = Top ∷ Wrapper ∷ [];
    })
let_doubled = refl

let_twice : denotations ByContext Es (tree_of_items (items_of (variable Let (codes "exports") 7)))
    ≡ Bound Top (with (codes "load") 9) ∷ Global (codes "helper")
    ∷ Bound (Inner Parameters 10) (with (codes "module") 7)
    ∷ Bound (Inner Parameters 10) (with (codes "exports") 7)
    ∷ Bound (Inner FunctionBody 21) (with (codes "exports") 7) ∷ []
let_twice = refl

-- What is asked can be met: `arguments;`.

abbrev no_loads : Ident → Type 0
no_loads i = ⊥

abbrev turned : Turned no_loads zero (name_statement (codes "arguments") 0)
    (name_statement (codes "arguments") 7)
turned = begun refl (named refl (ended over))

-- the local context, and one for each inner scope
abbrev contexts : Numbering
contexts n x = cond (n == 0) 7 (cond (n == 1) 7 (n + 100))

only : (i : ℕ) (d : Denoted) →
    slice_get (Bound Wrapper (plain (codes "arguments")) ∷ []) i ≡ Some d →
    Bound Wrapper (plain (codes "arguments")) ≡ d
only zero d at = same_Some (Bound Wrapper (plain (codes "arguments"))) d at
only (suc i) d at = absurd (none-some d at)

not-inner : {kind : ScopeKind} {a : ℕ} {m : Name} →
    Bound Wrapper (plain (codes "arguments")) ≡ Bound (Inner kind a) m → ⊥
not-inner same = cc

wrapped : (s : Scope) (m : Name) → Bound Wrapper (plain (codes "arguments")) ≡ Bound s m →
    names_agree (with (codes "load") 9) (with m.sym (contexts (scope_order s) m.sym)) ≡ false
wrapped Wrapper m same =
    ap (λ x. names_agree (with (codes "load") 9) (with x 7)) (sym (ap denoted_symbol same))
wrapped Top m same = absurd (not-top same)
  where
    not-top : Bound Wrapper (plain (codes "arguments")) ≡ Bound Top m → ⊥
    not-top same = cc
wrapped (Inner kind a) m same = absurd (not-inner same)

gives : GivesLocal 7 contexts (tree_of_items (name_statement (codes "arguments") 0))
    (with (codes "load") 9)
gives = record {
  top = λ x. refl;
  wrapper = λ x. refl;
  local_own = λ e. seven-one e;
  inner_own = λ i kind a m at. absurd (not-inner (only i (Bound (Inner kind a) m) at));
  inner_one =
      λ i j kind other a b m n at there numbers.
      absurd (not-inner (only i (Bound (Inner kind a) m) at));
  not_load = λ i s m at. wrapped s m (only i (Bound s m) at);
  load_other = λ x. no-one x;
}
  where
    seven-one : ◌≡◌ {A = ℕ} 7 1 → ⊥
    seven-one e = omega (arith, e)

    no-one : (x : List ℕ) → names_agree (with (codes "load") 9) (with x 1) ≡ false
    no-one x = by (bytes_eq (codes "load") x)
      where
        by : (b : Bool) → (b && false) ≡ false
        by true = refl
        by false = refl

-- it is met
can_be_loaded : IsLoadedItem contexts turned (codes "load", 9) (codes "module", 7) (codes "exports", 7)
can_be_loaded = record {
  has = (inl (refl, refl), tt);
  taken = taken;
  its_module = refl;
  its_exports = refl;
  apart = tells-apart turned taken refl 7 contexts (with (codes "load") 9) gives;
}
  where
    taken : Each IsDeclarationTaken (module_declared (name_statement (codes "arguments") 0))
    taken zero d at =
        ap (λ (e : Declared). is_some (nearest (from_taker e.by e.scopes)))
        (sym (same_Some _ d at))
    taken (suc zero) d at =
        ap (λ (e : Declared). is_some (nearest (from_taker e.by e.scopes)))
        (sym (same_Some _ d at))
    taken (suc (suc j)) d at = absurd (none-some d at)

-- All premises together can be met: `exports; require('b');`, where module b has the load function
-- `load#10`.

abbrev calls_b : Ident → Type 0
calls_b i = i ≡ (codes "load", 10)

abbrev call_there : List Item
call_there =
    h.Open 0 h.ExprStmt ∷ h.Open 0 h.CallExpr ∷ h.Ident 0 (codes "require") 0 Reference
    ∷ h.Open 1 (h.ExprOrSpread false) ∷ h.Open 0 (h.Str (codes "b") None) ∷ h.Close ∷ h.Close
    ∷ h.Close ∷ h.Close ∷ []

abbrev call_here : List Item
call_here =
    h.Open 0 h.ExprStmt ∷ h.Open 0 h.CallExpr ∷ h.Ident 0 (codes "load") 10 Reference ∷ h.Close
    ∷ h.Close ∷ []

abbrev pieces : Pieced calls_b (name_statement (codes "exports") 0 ∷ call_there ∷ [])
    (name_statement (codes "exports") 7 ∷ call_here ∷ [])
pieces =
    one_more (begun refl (named refl (ended over)))
    (one_more (begun refl (called refl (ended over))) no_more)

abbrev both_there : List Item
both_there = name_statement (codes "exports") 0 ++ call_there

abbrev its_denoted : List Denoted
its_denoted = Bound Wrapper (plain (codes "exports")) ∷ Global (codes "require") ∷ []

are_denoted : denotations BySymbol Cjs (tree_of_items both_there) ≡ its_denoted
are_denoted = refl

-- what one of them may be
bound_wrapper : (i : ℕ) (s : Scope) (m : Name) → slice_get its_denoted i ≡ Some (Bound s m) →
    Bound Wrapper (plain (codes "exports")) ≡ Bound s m
bound_wrapper zero s m at = same_Some (Bound Wrapper (plain (codes "exports"))) (Bound s m) at
bound_wrapper (suc zero) s m at =
    absurd (no-global (same_Some (Global (codes "require")) (Bound s m) at))
  where
    no-global : Global (codes "require") ≡ Bound s m → ⊥
    no-global same = cc
bound_wrapper (suc (suc i)) s m at = absurd (none-some (Bound s m) at)

only_wrapper : {kind : ScopeKind} {a : ℕ} {m : Name} →
    Bound Wrapper (plain (codes "exports")) ≡ Bound (Inner kind a) m → ⊥
only_wrapper same = cc

-- a name of another symbol or context than exports#7
strangely : (x : List ℕ) (c : ℕ) → names_agree (with (codes "exports") 7) (with x c) ≡ false →
    (i : ℕ) (s : Scope) (m : Name) → slice_get its_denoted i ≡ Some (Bound s m) →
    names_agree (with m.sym (contexts (scope_order s) m.sym)) (with x c) ≡ false
strangely x c other i s m at =
    let same = bound_wrapper i s m at in
    (λ k. names_agree (with (ap denoted_symbol (sym same) k)
    (contexts (scope_order (ap scope_in (sym same) k)) (ap denoted_symbol (sym same) k)))
    (with x c))
    ∙ other

gives_both : GivesLocal 7 contexts (tree_of_items both_there) (with (codes "load") 9)
gives_both = record {
  top = λ x. refl;
  wrapper = λ x. refl;
  local_own = λ e. seven-one e;
  inner_own = λ i kind a m at. absurd (only_wrapper (bound_wrapper i (Inner kind a) m at));
  inner_one =
      λ i j kind other a b m n at there numbers.
      absurd (only_wrapper (bound_wrapper i (Inner kind a) m at));
  not_load =
      λ i s m at. let same = bound_wrapper i s m at in
      λ k. names_agree (with (codes "load") 9)
      (with (ap denoted_symbol (sym same) k)
      (contexts (scope_order (ap scope_in (sym same) k)) (ap denoted_symbol (sym same) k)));
  load_other = λ x. never (bytes_eq (codes "load") x);
}
  where
    seven-one : ◌≡◌ {A = ℕ} 7 1 → ⊥
    seven-one e = omega (arith, e)

    never : (b : Bool) → (b && false) ≡ false
    never true = refl
    never false = refl

both_taken : Each IsDeclarationTaken (module_declared both_there)
both_taken zero d at =
    ap (λ (e : Declared). is_some (nearest (from_taker e.by e.scopes))) (sym (same_Some _ d at))
both_taken (suc zero) d at =
    ap (λ (e : Declared). is_some (nearest (from_taker e.by e.scopes))) (sym (same_Some _ d at))
both_taken (suc (suc j)) d at = absurd (none-some d at)

abbrev both_loaded : IsLoadedItem contexts (together pieces) (codes "load", 9) (codes "module", 7)
    (codes "exports", 7)
both_loaded = record {
  has = (inl (refl, refl), tt);
  taken = both_taken;
  its_module = refl;
  its_exports = refl;
  apart =
      tells-apart (together pieces) both_taken refl 7 contexts (with (codes "load") 9) gives_both;
}

-- the item, and one that declares `helper#8` and `load#10`
abbrev whole : List (List Item)
whole =
    items_of (name_statement (codes "exports") 7 ++ call_here)
    ∷ (variable Var (codes "helper") 8 ++ variable Var (codes "load") 10) ∷ []

strange : (x : List ℕ) (c : ℕ) → names_agree (with (codes "exports") 7) (with x c) ≡ false →
    names_agree (with (codes "module") 7) (with x c) ≡ false →
    IsStrange (together pieces) contexts (codes "load", 9) (codes "helper", 8) (codes "module", 7)
    (codes "exports", 7) both_loaded x c
strange x c first second = record {
  bindings = λ i o s k at is. strangely x c first i s k (by i at is);
  its_module = second;
  its_exports = first;
}
  where
    by : (i : ℕ) {o : Occurrence} {s : Scope} {k : Name} →
        slice_get (module_names both_there) i ≡ Some o →
        denoted_of BySymbol Cjs (module_declared both_there) o ≡ Bound s k →
        slice_get its_denoted i ≡ Some (Bound s k)
    by zero at is =
        ap Some (ap (denoted_of BySymbol Cjs (module_declared both_there)) (same_Some _ _ at) ∙ is)
    by (suc zero) at is =
        ap Some (ap (denoted_of BySymbol Cjs (module_declared both_there)) (same_Some _ _ at) ∙ is)
    by (suc (suc i)) at is = absurd (none-some _ at)

both_known : AreKnown (together pieces) contexts (codes "load", 9) (codes "helper", 8)
    (codes "module", 7) (codes "exports", 7) both_loaded whole
both_known = record {
  load_known = refl;
  load_strange = strange (codes "load") 9 refl refl;
  helper_known = refl;
  helper_strange = strange (codes "helper") 8 refl refl;
  helper_other = refl;
  called_known = λ name is. called name is;
  own_names = own;
  global_strange =
      λ x. strange x 1 (never (bytes_eq (codes "exports") x))
      (never (bytes_eq (codes "module") x));
}
  where
    never : (b : Bool) → (b && false) ≡ false
    never true = refl
    never false = refl

    called : (name : Ident) → name ≡ (codes "load", 10) →
        (is_item_top_name whole (with name.0 name.1) ≡ true)
        × IsStrange (together pieces) contexts (codes "load", 9) (codes "helper", 8)
        (codes "module", 7) (codes "exports", 7) both_loaded name.0 name.1
        × (is_arguments name.0 ≡ false)
    called name is = (
      ap (λ (i : Ident). is_item_top_name whole (with i.0 i.1)) is,
      strange name.0 name.1
          (ap (λ (i : Ident). names_agree (with (codes "exports") 7) (with i.0 i.1)) is)
          (ap (λ (i : Ident). names_agree (with (codes "module") 7) (with i.0 i.1)) is),
      ap (λ (i : Ident). is_arguments i.0) is,
    )

    own : (i : ℕ) (o : Occurrence) → slice_get (module_names both_there) i ≡ Some o →
        is_item_top_name whole (with o.sym
        (context_of contexts (denoted_of BySymbol Cjs (module_declared both_there) o))) ≡ false
    own zero o at =
        ap (λ (q : Occurrence). is_item_top_name whole
        (with q.sym (context_of contexts
        (denoted_of BySymbol Cjs (module_declared both_there) q)))) (sym (same_Some _ o at))
    own (suc zero) o at =
        ap (λ (q : Occurrence). is_item_top_name whole
        (with q.sym (context_of contexts
        (denoted_of BySymbol Cjs (module_declared both_there) q)))) (sym (same_Some _ o at))
    own (suc (suc i)) o at = absurd (none-some o at)

-- and what follows is that the names of the item are right
noted : (o : Occurrence) →
    IsListedIn (items_of (name_statement (codes "exports") 7 ++ call_here)) o →
    IsOccurrenceNoted whole (items_of (name_statement (codes "exports") 7 ++ call_here)) o
noted o there =
    all-noted (together pieces) contexts (codes "load", 9) (codes "helper", 8) (codes "module", 7)
    (codes "exports", 7) both_loaded whole both_known o there
