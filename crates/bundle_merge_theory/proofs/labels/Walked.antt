-- What a list of elements declares, one by one, and where each declaration stands.
use Rattle.std.proofs.Common.{◌≡◌, ◌⊎◌, inl, inr, ℕ, suc, ◌+◌, Bool, true, false, List, [], ◌∷◌, ◌++◌, Option, Some, None, Contains, refl, sym, ap, ◌∙◌, subst, arith}
use Rattle.std.specs.Prelude.{fold}
use Rattle.std.specs.List.{cons_option}
use Rattle.std.proofs.lemmas.Bool.{false≢true}
use Rattle.std.proofs.lemmas.Option.{none-some, same_Some}
use Rattle.bundle_syntax.specs.declared.piece.Role.TheVariants as r
use Rattle.bundle_syntax.specs.Item as h
use Rattle.bundle_syntax.specs.Item.{Item, Head}
use Rattle.bundle_rules.specs.Places.{Spot, past, in_field, Occurrence, occurrence_of, occurrences_from}
use Rattle.bundle_rules.specs.Scopes.{Es, scopes_around, Scope}
use Rattle.bundle_rules.specs.Declarations.{BySymbol, Declared, declared_by, declaration_of, declared_at, declared_from, way_of, Name, Way}
use Rattle.bundle_rules.specs.Meaning.{plain}
use Rattle.bundle_rules.specs.Statements.{taken, taken_from}
use Rattle.bundle_link_targets.proofs.ListLemmas.{first-there}
use Rattle.bundle_link_index.proofs.ProgramLemmas.{later as later-there, first_or_later as there-cases}

-- whether a default export begins here
abbrev pub exports_default : Item → Bool
exports_default (h.Open field h.ExportDefaultExpr) = true
exports_default (h.Open field h.ExportDefaultDecl) = true
exports_default _ = false

-- no default export begins in these
pub data HasNoDefault : List Item → Type 0 where
  over : HasNoDefault []
  next : {x : Item} {rest : List Item} →
      exports_default x ≡ false →
      HasNoDefault rest →
      HasNoDefault (x ∷ rest)

pub put-cases : {A : Type 0} (first : Option A) (xs : List A) (x : A) →
    Contains (cons_option first xs) x → (first ≡ Some x) ⊎ Contains xs x
put-cases None xs x c = inr c
put-cases (Some a) xs x c = elim (there-cases a xs x c) [
  | inl e ↦ inl (ap (λ y. Some y) e)
  | inr more ↦ inr more
]

pub put-first : {A : Type 0} (first : Option A) (xs : List A) (x : A) → first ≡ Some x →
    Contains (cons_option first xs) x
put-first None xs x e = absurd (none-some x e)
put-first (Some a) xs x e = subst (λ y. Contains (a ∷ xs) y) (same_Some a x e) (first-there a xs)

pub put-later : {A : Type 0} (first : Option A) (xs : List A) (x : A) → Contains xs x →
    Contains (cons_option first xs) x
put-later None xs x c = c
put-later (Some a) xs x c = later-there a xs x c

-- a name that is declared here, by an occurrence
pub record IsNameHere (s : Spot) (x : Item) (d : Declared) : Type 0 where
  pub o : Occurrence
  pub here : occurrence_of s x ≡ Some o
  pub declares : declaration_of BySymbol Es o ≡ Some d
  pub field : ℕ
  pub ctxt : ℕ
  pub is : x ≡ h.Ident field d.name.sym ctxt r.Binding
  pub place : d.place ≡ s.place
  pub named : d.name ≡ plain d.name.sym

-- what declares is a name that binds
way-some : (place : ℕ) (name : Name) (scopes : List Scope) (way : Option Way) (d : Declared) →
    declared_by place name scopes way ≡ Some d → (d.place ≡ place) × (d.name ≡ name)
way-some place name scopes None d e = absurd (none-some d e)
way-some place name scopes (Some way) d e =
    let same = same_Some _ d e in
    (ap (λ (x : Declared). x.place) (sym same), ap (λ (x : Declared). x.name) (sym same))

-- an element without a default export declares only as a name
pub declared-here : (s : Spot) (x : Item) (rest : List Item) (d : Declared) →
    exports_default x ≡ false → declared_at BySymbol Es s x rest ≡ Some d → IsNameHere s x d
declared-here s (h.Ident field x ctxt r.Binding) rest d none e =
    let o : Occurrence =
    record
    { place = s.place; sym = x; ctxt = ctxt; role = r.Binding; path = in_field field s.path } in
    let its = way-some s.place (plain x) (scopes_around Es o.path) (way_of o.path) d e in
    let name : d.name.sym ≡ x = ap (λ (n : Name). n.sym) its.1 in
    record {
      o = o;
      here = refl;
      declares = e;
      field = field;
      ctxt = ctxt;
      is = ap (λ y. h.Ident field y ctxt r.Binding) (sym name);
      place = its.0;
      named = its.1 ∙ ap plain (sym name);
    }
declared-here s (h.Ident field x ctxt r.Reference) rest d none e = absurd (none-some d e)
declared-here s (h.Ident field x ctxt r.Word) rest d none e = absurd (none-some d e)
declared-here s (h.Hole field) rest d none e = absurd (none-some d e)
declared-here s h.Close rest d none e = absurd (none-some d e)
declared-here s (h.Open field head) rest d none e = absurd (none-some d (by head none e))
  where
    by : (k : Head) → exports_default (h.Open field k) ≡ false →
        declared_at BySymbol Es s (h.Open field k) rest ≡ Some d → None ≡ Some d
    by h.ExportDefaultExpr none e = absurd (false≢true (sym none))
    by h.ExportDefaultDecl none e = absurd (false≢true (sym none))
    by _ none e = e

-- a name that is declared in these, by an occurrence
pub record IsNameIn (s : Spot) (items : List Item) (d : Declared) : Type 0 where
  pub o : Occurrence
  pub there : Contains (occurrences_from s items) o
  pub declares : declaration_of BySymbol Es o ≡ Some d
  pub field : ℕ
  pub ctxt : ℕ
  pub stands : Contains (taken_from s.place items)
      (taken d.place (h.Ident field d.name.sym ctxt r.Binding))
  pub named : d.name ≡ plain d.name.sym

name-first : (s : Spot) (x : Item) (rest : List Item) (d : Declared) → IsNameHere s x d →
    IsNameIn s (x ∷ rest) d
name-first s x rest d its = record {
  o = its.o;
  there = put-first (occurrence_of s x) (occurrences_from (past s x) rest) its.o its.here;
  declares = its.declares;
  field = its.field;
  ctxt = its.ctxt;
  stands = subst (λ e. Contains (taken s.place x ∷ taken_from (suc s.place) rest) e)
      (ap (λ y. taken s.place y) its.is
      ∙ ap (λ n. taken n (h.Ident its.field d.name.sym its.ctxt r.Binding)) (sym its.place))
      (first-there (taken s.place x) (taken_from (suc s.place) rest));
  named = its.named;
}

pub name-later : (s : Spot) (x : Item) (rest : List Item) (d : Declared) →
    IsNameIn (past s x) rest d →
    IsNameIn s (x ∷ rest) d
name-later s x rest d its =
    let next : s.place + 1 ≡ suc s.place = omega arith in
    record {
      o = its.o;
      there = put-later (occurrence_of s x) (occurrences_from (past s x) rest) its.o its.there;
      declares = its.declares;
      field = its.field;
      ctxt = its.ctxt;
      stands =
          later-there (taken s.place x) (taken_from (suc s.place) rest)
          (taken d.place (h.Ident its.field d.name.sym its.ctxt r.Binding))
          (subst
          (λ n. Contains (taken_from n rest)
          (taken d.place (h.Ident its.field d.name.sym its.ctxt r.Binding))) next its.stands);
      named = its.named;
    }

-- what a list without default exports declares in front of others, it declares by its names
pub declared-in : (items : List Item) → HasNoDefault items → (s : Spot) (tail : List Item)
    (d : Declared) → Contains (declared_from BySymbol Es s (items ++ tail)) d →
    IsNameIn s items d ⊎ Contains (declared_from BySymbol Es (fold past s items) tail) d
declared-in [] over s tail d c = inr c
declared-in (x ∷ items) (next plain_one more) s tail d c =
    elim
    (put-cases (declared_at BySymbol Es s x (items ++ tail))
    (declared_from BySymbol Es (past s x) (items ++ tail)) d c) [
      | inl e ↦ inl (name-first s x items d (declared-here s x (items ++ tail) d plain_one e))
      | inr later ↦ elim (declared-in items more (past s x) tail d later) [
        | inl its ↦ inl (name-later s x items d its)
        | inr behind ↦ inr behind
      ]
    ]

pub no-default-join : (xs ys : List Item) → HasNoDefault xs → HasNoDefault ys →
    HasNoDefault (xs ++ ys)
no-default-join [] ys over them = them
no-default-join (x ∷ xs) ys (next e more) them = next e (no-default-join xs ys more them)
