-- What names a reading gives to declarations.
use Rattle.std.proofs.Common.{ℕ, Bool, true, false, cond, List, [], ◌∷◌, ◌++◌, Option, Some, None, refl}
use Rattle.std.specs.Prelude.{option_and_then, IfSome}
use Rattle.std.specs.List.{AllZip, cons_option}
use Rattle.std.proofs.lemmas.Bool.{false≢true}
use Rattle.bundle_syntax.specs.Item.{Item}
use Rattle.bundle_rules.specs.Places as p
use Rattle.bundle_rules.specs.Scopes as s
use Rattle.bundle_rules.specs.Declarations as d
use Rattle.bundle_scope_denote.specs.Bound.{IsDeclaredAs}

-- each element has this
abbrev pub Each : {X : Type 0} → (X → Type 0) → List X → Type 0
Each P [] = Unit {0}
Each P (x ∷ xs) = P x × Each P xs

each_option : {X : Type 0} (P : X → Type 0) (x : Option X) (xs : List X) → IfSome x P → Each P xs → Each P (cons_option x xs)
each_option P None xs first rest = rest
each_option P (Some x) xs first rest = (first, rest)

each_append : {X : Type 0} (P : X → Type 0) (xs ys : List X) → Each P xs → Each P ys → Each P (xs ++ ys)
each_append P [] ys first rest = rest
each_append P (x ∷ xs) ys first rest = (first.0, each_append P xs ys first.1 rest)

-- what has a name that the reading gives
named : (reading : d.Reading) (symbol : List ℕ) (ctxt place : ℕ) (way : Option d.Way) (scopes : List s.Scope) → IfSome (d.declared_by place (d.name_of reading symbol ctxt) scopes way) (IsDeclaredAs reading)
named reading symbol ctxt place None scopes = tt
named d.BySymbol symbol ctxt place (Some way) scopes = refl
named d.ByContext symbol ctxt place (Some way) scopes = λ joins. refl

declaration-read : (reading : d.Reading) (kind : s.ModuleKind) (occurrence : p.Occurrence) → IfSome (d.declaration_of reading kind occurrence) (IsDeclaredAs reading)
declaration-read reading kind occurrence = by (p.is_binding occurrence.role)
  where
    by : (t : Bool) → IfSome (cond t (d.declared_by occurrence.place (d.name_of reading occurrence.sym occurrence.ctxt) (s.scopes_around kind occurrence.path) (d.way_of occurrence.path)) None) (IsDeclaredAs reading)
    by true = named reading occurrence.sym occurrence.ctxt occurrence.place (d.way_of occurrence.path) (s.scopes_around kind occurrence.path)
    by false = tt

default-read : (reading : d.Reading) (kind : s.ModuleKind) (place : ℕ) → IsDeclaredAs reading (d.nameless_default kind place)
default-read d.BySymbol kind place = refl
default-read d.ByContext kind place = λ joins. absurd (false≢true joins)

declared_at-read : (reading : d.Reading) (kind : s.ModuleKind) (spot : p.Spot) (item : Item) (rest : List Item) → IfSome (d.declared_at reading kind spot item rest) (IsDeclaredAs reading)
declared_at-read reading kind spot item rest = by (d.is_nameless_default item rest) (p.occurrence_of spot item)
  where
    by : (t : Bool) (found : Option p.Occurrence) → IfSome (cond t (Some (d.nameless_default kind spot.place)) (option_and_then (d.declaration_of reading kind) found)) (IsDeclaredAs reading)
    by true found = default-read reading kind spot.place
    by false None = tt
    by false (Some occurrence) = declaration-read reading kind occurrence

declared_from-read : (reading : d.Reading) (kind : s.ModuleKind) (spot : p.Spot) (items : List Item) → Each (IsDeclaredAs reading) (d.declared_from reading kind spot items)
declared_from-read reading kind spot [] = tt
declared_from-read reading kind spot (item ∷ rest) = each_option (IsDeclaredAs reading) (d.declared_at reading kind spot item rest) (d.declared_from reading kind (p.past spot item) rest) (declared_at-read reading kind spot item rest) (declared_from-read reading kind (p.past spot item) rest)

wrapper-read : (reading : d.Reading) (kind : s.ModuleKind) → Each (IsDeclaredAs reading) (d.wrapper_parameters kind)
wrapper-read reading s.Es = tt
wrapper-read d.BySymbol s.Cjs = (refl, (refl, tt))
wrapper-read d.ByContext s.Cjs = (λ joins. absurd (false≢true joins), (λ joins. absurd (false≢true joins), tt))

pub declared-read : (reading : d.Reading) (kind : s.ModuleKind) (items : List Item) → Each (IsDeclaredAs reading) (d.declared reading kind items)
declared-read reading kind items = each_append (IsDeclaredAs reading) (d.wrapper_parameters kind) (d.declared_from reading kind p.start items) (wrapper-read reading kind) (declared_from-read reading kind p.start items)

-- what is related in turn, and what each of the second has
pub AllZip-each : {A B : Type 0} (R : A → B → Type 0) (P : B → Type 0) (xs : List A) (ys : List B) → AllZip R xs ys → Each P ys → AllZip (λ x y. R x y × P y) xs ys
AllZip-each R P [] [] all each = tt
AllZip-each R P [] (y ∷ ys) all each = absurd all
AllZip-each R P (x ∷ xs) [] all each = absurd all
AllZip-each R P (x ∷ xs) (y ∷ ys) all each = ((all.0, each.0), AllZip-each R P xs ys all.1 each.1)
