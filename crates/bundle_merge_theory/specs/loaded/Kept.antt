-- Names of a module in its load function, with contexts: what they denote by symbol and context in
-- the item by itself.
use Rattle.std.specs.Prelude.{◌≡◌, ◌≢◌, ℕ, ◌+◌, ◌-◌, ◌==◌, true, false, cond, List, [], ◌∷◌, Some, None, is_some, slice_get, ◌⊎◌, codes}
use Rattle.bundle_syntax.specs.Item.{Item}
use Rattle.bundle_rules.specs.Places.{Occurrence}
use Rattle.bundle_rules.specs.Scopes.{Es, Cjs, Scope, Wrapper, Top, scope_order, scopes_around}
use Rattle.bundle_rules.specs.Declarations.{Way, ByVar, BySymbol, Name, names_agree, Declared, declaration_of, way_of}
use Rattle.bundle_rules.specs.Homes.{from_taker, nearest, declares}
use Rattle.bundle_rules.specs.Denotes.{Denoted, Bound, Global, denoted_of, denotations}
use Rattle.bundle_scope_names.proofs.Numbering.{Numbering, context_of, lift_all}
use Rattle.bundle_scope_names.proofs.FoundLemmas.{plain, with}
use Rattle.bundle_merge_theory.specs.loaded.Framed.{Beside, Framed, is_wrapper_way}

-- the contexts of the item's bindings, by those of the module's
abbrev pub moved_numbering : (from : ℕ → ℕ) → Numbering → Numbering
moved_numbering from g n x =
    cond (n == 23) (g 1 x) (cond (n == 12) (g 0 x) (g (from (n - 2) + 2) x))

-- the declaration of the load function itself
abbrev pub load_declared : List ℕ → ℕ → Declared
load_declared x c = record { place = 4; name = with x c; by = ByVar; scopes = Top ∷ [] }

-- all that the item declares by itself, where these are its parameters and what is declared in its
-- body, by symbol
abbrev pub item_declared : (from : ℕ → ℕ) → Numbering → List ℕ → ℕ → List Declared → List Declared
item_declared from g load_sym load_ctxt es =
    load_declared load_sym load_ctxt ∷ lift_all (moved_numbering from g) es

-- what is denoted by symbol and context in the item, where that is denoted by symbol in the
-- module: what is declared has the context of the binding, and an implicit `arguments` has none
pub data DenotedBeside (R : ℕ → ℕ → Type 0) (g : Numbering) (ds : List Declared) : Denoted →
    Denoted → Type 0 where
  globals : {x : List ℕ} → DenotedBeside R g ds (Global x) (Global x)
  bindings : {s t : Scope} {x : List ℕ} → Beside R s t →
      DenotedBeside R g ds (Bound s (plain x))
      (Bound t (record {
        sym = x;
        ctxt = cond (declares ds s (plain x)) (Some (g (scope_order s) x)) None;
      }))

-- an occurrence of the body stands where one of the module does
pub record StandsBeside (R : ℕ → ℕ → Type 0) (o u : Occurrence) : Type 0 where
  pub role : u.role ≡ o.role
  pub way : way_of u.path ≡ way_of o.path
  pub scopes : Framed R (scopes_around Cjs o.path) (scopes_around Es u.path)
  pub own : (way : Way) → way_of o.path ≡ Some way → is_wrapper_way way ≡ false

-- some scope around it takes a declaration
abbrev pub IsDeclarationTaken : Declared → Type 0
IsDeclarationTaken d = is_some (nearest (from_taker d.by d.scopes)) ≡ true

-- an identifier that declares a name is taken, and listed among the declarations of its tree
pub record IsKnown_as (ds : List Declared) (d : Declared) : Type 0 where
  pub taken : IsDeclarationTaken d
  pub at : ℕ
  pub listed : slice_get ds at ≡ Some d

abbrev pub IsOccurrenceKnown : List Declared → Occurrence → Type 0
IsOccurrenceKnown ds o = (d : Declared) → declaration_of BySymbol Cjs o ≡ Some d → IsKnown_as ds d

-- contexts tell the binding of this scope and name apart from globals and from other bindings of
-- its name
pub record IsToldApart (g : Numbering) (ds : List Declared) (s : Scope) (x : List ℕ) : Type 0 where
  pub own : g (scope_order s) x ≢ 1
  pub apart : (other : Scope) → declares ds other (plain x) ≡ true →
      g (scope_order other) x ≡ g (scope_order s) x → scope_order other ≡ scope_order s

-- it has its symbol, and the context of what it denotes
pub record KeepsName (g : Numbering) (ds : List Declared) (o u : Occurrence) : Type 0 where
  pub symbol : u.sym ≡ o.sym
  pub ctxt : u.ctxt ≡ context_of g (denoted_of BySymbol Cjs ds o)

-- the contexts of a module tell its bindings apart, for what its occurrences denote: from globals,
-- from each other, from the parameters, and from the name of its load function
pub record TellsApart (g : Numbering) (tree : List Item) (load : Name) : Type 0 where
  pub own : (i : ℕ) (s : Scope) (m : Name) →
      slice_get (denotations BySymbol Cjs tree) i ≡ Some (Bound s m) → g (scope_order s) m.sym ≢ 1
  pub apart : (i j : ℕ) (s t : Scope) (m n : Name) →
      slice_get (denotations BySymbol Cjs tree) i ≡ Some (Bound s m) →
      slice_get (denotations BySymbol Cjs tree) j ≡ Some (Bound t n) → m.sym ≡ n.sym →
      g (scope_order s) m.sym ≡ g (scope_order t) n.sym → scope_order s ≡ scope_order t
  pub parameters : (i : ℕ) (s : Scope) (m : Name) →
      slice_get (denotations BySymbol Cjs tree) i ≡ Some (Bound s m) →
      (m.sym ≡ codes "module") ⊎ (m.sym ≡ codes "exports") → g 0 m.sym ≡ g (scope_order s) m.sym →
      s ≡ Wrapper
  pub not_load : (i : ℕ) (s : Scope) (m : Name) →
      slice_get (denotations BySymbol Cjs tree) i ≡ Some (Bound s m) →
      names_agree load (with m.sym (g (scope_order s) m.sym)) ≡ false
  pub load_other : (x : List ℕ) → names_agree load (with x 1) ≡ false
