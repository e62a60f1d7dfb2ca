-- No declaration is doubled exactly where none clashes with another.
-- Declarations in one way, in scopes that go with others, exclude alike.
-- Declarations of a part stand at places of their own, one behind the other.
-- What an own statement becomes declares what the statement declares in its module.
-- What is made for an own statement declares what the statement declares in its module.
use Rattle.std.proofs.Common.{◌≡◌, ◌<◌, ◌⊎◌, inl, inr, ℕ, ◌==◌, ◌&&◌, ◌||◌, not, nat_lt, true, List, Option, Some, None, find, bytes_eq, refl, ap, sym, ◌∙◌, eq-eqb, lt-ltb, ne_eqb, eqb-true, Bool, false, cond, [], ◌∷◌, map, unwrap_or, subst, ◌≤◌, zero, suc, ◌+◌, ◌++◌, fold, length, slice_get, arith, option_map, codes}
use Rattle.std.proofs.lemmas.Bool.{false≢true, and_parts, and_from, or_cases, or_left, or_right, false_from_ne_true}
use Rattle.std.proofs.lemmas.Slice.Eq.{bytes_eq-Decides}
use Rattle.std.specs.Prelude.{take_while}
use Rattle.std.specs.List.{AllZip, cons_option}
use Rattle.std.proofs.lemmas.List.Sums.{take_while-cons}
use Rattle.std.proofs.lemmas.Option.{none-some, same_Some}
use Rattle.bundle_order_graph.proofs.OrderLemmas.{not-true as not_true}
use Rattle.bundle_syntax.specs.Item as h
use Rattle.bundle_syntax.specs.Item.{Item, Head}
use Rattle.bundle_syntax.specs.declared.piece.Role.TheVariants
use Rattle.bundle_rules.specs.Declarations.{names_agree, Name, Declared, contexts_agree, Way, ByImport, ByFunction, Reading, name_of, declared_by, declaration_of, declared_at, declared_from, way_of, ByConst, ByClass, BySymbol, ByContext, declared, nameless_default}
use Rattle.bundle_rules.specs.Doubled.{excludes, clash, is_doubled, may_double_functions, stands_once, is_var}
use Rattle.bundle_rules.specs.Scopes.{Scope, ScopeKind, Wrapper, Top, Inner, FunctionBody, StaticBody, CatchBlock, ModuleKind, scopes_around, Es}
use Rattle.bundle_rules.specs.Homes.{takes, from_taker, nearest, group_of}
use Rattle.bundle_rules.specs.Places.{Spot, in_field, past, Occurrence, occurrences_from, is_binding, start}
use Rattle.bundle_rules.specs.Cleared.{cleared}
use Rattle.bundle_rules.specs.Idents.{Ident}
use Rattle.bundle_rules.specs.Statements.{declaration_head, Element, own_statements}
use Rattle.bundle_rules.specs.Program.{Program, tree_of, IsReached}
use Rattle.bundle_rules.specs.Linking.{IsCommonJs}
use Rattle.bundle_rules.specs.Meaning.{Label, IsMeant, is_es}
use Rattle.bundle_rules.specs.Bundle
use Rattle.bundle_rules.specs.Bundle.{Own, AsModule, Hooks, IsDue}
use Rattle.bundle_tree_places.specs.Edits.{node}
use Rattle.bundle_scope_names.proofs.HomesLemmas.{find-failed, Each}
use Rattle.bundle_scope_names.proofs.Numbering.{Numbering}
use Rattle.bundle_tree_rebuild.specs.Becomes.{named}
use Rattle.bundle_tree_rebuild.specs.Work.{Step, Work}
use Rattle.bundle_scope_names.proofs.naming_rule.Tables.{list_any-in, any-here, find-none_in, trichotomy}
use Rattle.bundle_link_index.proofs.ProgramLemmas.{got_there as place-there}
use Rattle.bundle_merge_theory.specs.joined.Alike.{ScopesAlike, tops, wrappers, inners, ArePlacesOneToOne}
use Rattle.bundle_merge_theory.specs.joined.Joined.{moved, moved_scope, moved_declared, AllOf, own_declared}
use Rattle.bundle_merge_theory.proofs.joined.Groups.{same-alike}
use Rattle.bundle_merge_theory.proofs.joined.Paths.{moved-same, item-occurrences}
use Rattle.bundle_merge_theory.proofs.joined.Denotes.{takes-relocated}
use Rattle.bundle_merge_theory.specs.loaded.Item.{declared_by_names}
use Rattle.bundle_merge_theory.proofs.joined.Declarations.{declared-item, IsNamed}
use Rattle.bundle_merge_theory.proofs.loaded.Noted.{picked}
use Rattle.bundle_merge_theory.specs.noted.Agrees.{IsSpotAt}
use Rattle.bundle_merge_theory.specs.noted.Stated.{states_itself, is_default_head, declares_default}
use Rattle.bundle_merge_theory.specs.walked.Stated
use Rattle.bundle_merge_theory.specs.walked.Stated.{StatesList}
use Rattle.bundle_merge_theory.specs.undoubled.Clashing.{IsAmong, IsClash, NoneClash, TellsScopes, ExcludesAlike, Corresponds, ComesFrom, IsDeclaredFor, of_statement}
use Rattle.bundle_merge_theory.specs.composed.Noted.{first_spot}
use Rattle.bundle_merge_theory.specs.own.Beside.{Pairs, Paired, AllMade, done, made, added, IsFront, AreFront, no_front, one_front, top_spot, StatedBeside}
use Rattle.bundle_merge_theory.proofs.own.Alongside.{HasWay, KeepsBinding, IsAlongside}
use Rattle.bundle_merge_theory.specs.made.Given.{HookAnswer, BundleContexts, numbers_in}
use Rattle.bundle_merge_theory.specs.made.Steps.{occurrences_in}
use Rattle.bundle_merge_theory.specs.made.Made
use Rattle.bundle_merge_theory.specs.made.Made.{IsStatedAs, IsMade}
use Rattle.bundle_merge_theory.specs.made.Alone.{AreTreesSound, TellApart, IsTopLabel}
use Rattle.bundle_merge_theory.specs.made.Told.{IsStatementTold}
use Rattle.bundle_merge_theory.specs.labels.Functions.{IsOfFunction, a_name, a_parameter}
use Rattle.bundle_merge_theory.specs.own.Functions.{IsInFunction}
use Rattle.bundle_merge_theory.proofs.labels.Theorem.{meant-top}
use Rattle.bundle_merge_theory.proofs.told.Theorem.{told}
use Rattle.bundle_merge_theory.proofs.own.Pairs.{one-to-one}
use Rattle.bundle_merge_theory.proofs.own.Setting.{along, beside, stand, os-are}

-- ---- clash

-- names agree either way
contexts_turned : (a b : Option ℕ) → contexts_agree a b ≡ true → contexts_agree b a ≡ true
contexts_turned None None is = refl
contexts_turned None (Some b) is = refl
contexts_turned (Some a) None is = refl
contexts_turned (Some a) (Some b) is = eq-eqb b a (sym (eqb-true a b is))

pub agree_turned : (a b : Name) → names_agree a b ≡ true → names_agree b a ≡ true
agree_turned a b is =
    let parts = and_parts (bytes_eq a.sym b.sym) (contexts_agree a.ctxt b.ctxt) is in
    and_from (bytes_eq b.sym a.sym) (contexts_agree b.ctxt a.ctxt)
    ((bytes_eq-Decides b.sym a.sym).1 (sym ((bytes_eq-Decides a.sym b.sym).0 parts.0)))
    (contexts_turned a.ctxt b.ctxt parts.1)

pub clash_turned : (a b : Declared) → IsClash a b → IsClash b a
clash_turned a b its = record {
  agree = agree_turned a.name b.name its.agree;
  apart = λ same. its.apart (sym same);
  excluded = by its.excluded;
}
  where
    by : (excludes a b ≡ true) ⊎ (excludes b a ≡ true) →
        (excludes b a ≡ true) ⊎ (excludes a b ≡ true)
    by (inl one) = inr one
    by (inr other) = inl other

clash_is : (a b : Declared) → clash a b ≡ true → IsClash a b
clash_is a b is =
    let parts =
    and_parts (names_agree a.name b.name && not (a.place == b.place)) (excludes a b || excludes b a)
    is in
    let front = and_parts (names_agree a.name b.name) (not (a.place == b.place)) parts.0 in
    record {
      agree = front.0;
      apart =
          λ same. false≢true (sym (not_true (a.place == b.place) front.1)
          ∙ eq-eqb a.place b.place same);
      excluded = or_cases (excludes a b) (excludes b a) parts.1;
    }

is_clash : (a b : Declared) → IsClash a b → clash a b ≡ true
is_clash a b its =
    and_from (names_agree a.name b.name && not (a.place == b.place)) (excludes a b || excludes b a)
    (and_from (names_agree a.name b.name) (not (a.place == b.place)) its.agree
    (ap not (ne_eqb a.place b.place its.apart)))
    (either its.excluded)
  where
    either : (excludes a b ≡ true) ⊎ (excludes b a ≡ true) → (excludes a b || excludes b a) ≡ true
    either (inl one) = or_left (excludes a b) (excludes b a) one
    either (inr other) = or_right (excludes a b) (excludes b a) other

-- NONE IS DOUBLED
pub undoubled_from : (all : List Declared) → NoneClash all → find (is_doubled all) all ≡ None
undoubled_from all none =
    find-none_in (is_doubled all) all
    (λ d there. false_from_ne_true (is_doubled all d)
    (λ is.
    let found = list_any-in (λ earlier. nat_lt earlier.place d.place && clash earlier d) all is in
    none found.0 d found.1 there
    (clash_is found.0 d (and_parts (nat_lt found.0.place d.place) (clash found.0 d) found.2).1)))

pub none_from : (all : List Declared) → find (is_doubled all) all ≡ None → NoneClash all
none_from all none a b first second its = by (trichotomy a.place b.place)
  where
    never : (c d : Declared) → IsAmong all c → IsAmong all d → IsClash c d → c.place < d.place → ⊥
    never c d here there it less =
        false≢true
        (sym (find-failed (is_doubled all) all none there.0 d there.1)
        ∙ any-here (λ earlier. nat_lt earlier.place d.place && clash earlier d) all c here
        (and_from (nat_lt c.place d.place) (clash c d) (lt-ltb c.place d.place less)
        (is_clash c d it)))

    by : (a.place < b.place) ⊎ ((b.place < a.place) ⊎ (a.place ≡ b.place)) → ⊥
    by (inl less) = never a b first second its less
    by (inr (inl more)) = never b a second first (clash_turned a b its) more
    by (inr (inr same)) = its.apart same

-- ---- going
module _ (R : ℕ → ℕ → Type 0) where
  abbrev Alike : Scope → Scope → Type 0
  Alike s t = ScopesAlike R s t

  pub tells_alike : ArePlacesOneToOne R → TellsScopes (ScopesAlike R)
  tells_alike one = λ s t u v first second. same-alike R one first second

  takes_same : (way : Way) {s t : Scope} → ScopesAlike R s t → takes way t ≡ takes way s
  takes_same way tops = refl
  takes_same way wrappers = refl
  takes_same way (inners {kind = kind} {a = a} {b = b} r) =
      takes-relocated (λ n. b) way (Inner kind a)

  from_alike : (way : Way) (ss ts : List Scope) → AllZip Alike ss ts →
      AllZip Alike (from_taker way ss) (from_taker way ts)
  from_alike way [] [] z = tt
  from_alike way [] (t ∷ ts) z = absurd z
  from_alike way (s ∷ ss) [] z = absurd z
  from_alike way (s ∷ ss) (t ∷ ts) z =
      subst
      (λ b. AllZip Alike (cond (takes way s) (s ∷ ss) (from_taker way ss)) (cond b (t ∷ ts) (from_taker way ts)))
      (sym (takes_same way z.0)) (by (takes way s) (from_alike way ss ts z.1))
    where
      by : (b : Bool) → AllZip Alike (from_taker way ss) (from_taker way ts) →
          AllZip Alike (cond b (s ∷ ss) (from_taker way ss)) (cond b (t ∷ ts) (from_taker way ts))
      by true rest = z
      by false rest = rest

  or_alike : {s t : Scope} → ScopesAlike R s t → (ss ts : List Scope) → AllZip Alike ss ts →
      ScopesAlike R (unwrap_or (nearest ss) s) (unwrap_or (nearest ts) t)
  or_alike its [] [] z = its
  or_alike its [] (t ∷ ts) z = absurd z
  or_alike its (s ∷ ss) [] z = absurd z
  or_alike its (s ∷ ss) (t ∷ ts) z = z.0

  group_first : {s t : Scope} → ScopesAlike R s t → (ss ts : List Scope) → AllZip Alike ss ts →
      ScopesAlike R (group_of (s ∷ ss)) (group_of (t ∷ ts))
  group_first tops ss ts z = or_alike tops ss ts z
  group_first wrappers ss ts z = wrappers
  group_first (inners {kind = kind} {a = a} {b = b} r) ss ts z = by kind
    where
      by : (kind : ScopeKind) →
          ScopesAlike R (group_of (Inner kind a ∷ ss)) (group_of (Inner kind b ∷ ts))
      by FunctionBody = or_alike (inners r) ss ts z
      by CatchBlock = or_alike (inners r) ss ts z
      by _ = inners r

  group_alike : (ss ts : List Scope) → AllZip Alike ss ts →
      ScopesAlike R (group_of ss) (group_of ts)
  group_alike [] [] z = tops
  group_alike [] (t ∷ ts) z = absurd z
  group_alike (s ∷ ss) [] z = absurd z
  group_alike (s ∷ ss) (t ∷ ts) z = group_first z.0 ss ts z.1

  doubles_second : {s t : Scope} → ScopesAlike R s t → (ss ts : List Scope) →
      may_double_functions (Top ∷ t ∷ ts) ≡ may_double_functions (Top ∷ s ∷ ss)
  doubles_second tops ss ts = refl
  doubles_second wrappers ss ts = refl
  doubles_second (inners r) ss ts = refl

  doubles_first : {s t : Scope} → ScopesAlike R s t → (ss ts : List Scope) → AllZip Alike ss ts →
      may_double_functions (t ∷ ts) ≡ may_double_functions (s ∷ ss)
  doubles_first tops [] [] z = refl
  doubles_first tops [] (t ∷ ts) z = absurd z
  doubles_first tops (s ∷ ss) [] z = absurd z
  doubles_first tops (s ∷ ss) (t ∷ ts) z = doubles_second z.0 ss ts
  doubles_first wrappers ss ts z = refl
  doubles_first (inners {kind = kind} {a = a} {b = b} r) ss ts z = by kind
    where
      by : (kind : ScopeKind) →
          may_double_functions (Inner kind b ∷ ts) ≡ may_double_functions (Inner kind a ∷ ss)
      by FunctionBody = refl
      by StaticBody = refl
      by _ = refl

  doubles_alike : (ss ts : List Scope) → AllZip Alike ss ts →
      may_double_functions ts ≡ may_double_functions ss
  doubles_alike [] [] z = refl
  doubles_alike [] (t ∷ ts) z = absurd z
  doubles_alike (s ∷ ss) [] z = absurd z
  doubles_alike (s ∷ ss) (t ∷ ts) z = doubles_first z.0 ss ts z.1

  once_alike : (way : Way) (ss ts : List Scope) → AllZip Alike ss ts →
      stands_once way ts ≡ stands_once way ss
  once_alike ByFunction ss ts z = ap not (doubles_alike ss ts z)
  once_alike ByImport ss ts z = refl
  once_alike _ ss ts z = refl

  passing_alike : (way : Way) (ss ts : List Scope) → AllZip Alike ss ts →
      AllZip Alike (take_while (λ scope. not (takes way scope)) ss)
      (take_while (λ scope. not (takes way scope)) ts)
  passing_alike way [] [] z = tt
  passing_alike way [] (t ∷ ts) z = absurd z
  passing_alike way (s ∷ ss) [] z = absurd z
  passing_alike way (s ∷ ss) (t ∷ ts) z =
      subst (λ l. AllZip Alike l (take_while (λ scope. not (takes way scope)) (t ∷ ts)))
      (sym (take_while-cons (λ scope. not (takes way scope)) s ss))
      (subst
      (λ l. AllZip Alike (cond (not (takes way s)) (s ∷ take_while (λ scope. not (takes way scope)) ss) []) l)
      (sym (take_while-cons (λ scope. not (takes way scope)) t ts))
      (subst
      (λ b. AllZip Alike (cond (not (takes way s)) (s ∷ take_while (λ scope. not (takes way scope)) ss) []) (cond (not b) (t ∷ take_while (λ scope. not (takes way scope)) ts) []))
      (sym (takes_same way z.0)) (by (not (takes way s)) (passing_alike way ss ts z.1))))
    where
      by : (b : Bool) →
          AllZip Alike (take_while (λ scope. not (takes way scope)) ss)
          (take_while (λ scope. not (takes way scope)) ts) →
          AllZip Alike (cond b (s ∷ take_while (λ scope. not (takes way scope)) ss) [])
          (cond b (t ∷ take_while (λ scope. not (takes way scope)) ts) [])
      by true rest = (z.0, rest)
      by false rest = tt

  -- GOES WITH
  pub goes_alike : (d e : Declared) → e.by ≡ d.by → AllZip (ScopesAlike R) d.scopes e.scopes →
      ExcludesAlike (ScopesAlike R) d e
  goes_alike d e way z =
      subst
      (λ w. ExcludesAlike (ScopesAlike R) d (record { place = e.place; name = e.name; by = w; scopes = e.scopes }))
      (sym way)
      (record {
        lexical =
            once_alike d.by (from_taker d.by d.scopes) (from_taker d.by e.scopes)
            (from_alike d.by d.scopes e.scopes z);
        is_var = refl;
        taken =
            or_alike tops (from_taker d.by d.scopes) (from_taker d.by e.scopes)
            (from_alike d.by d.scopes e.scopes z);
        grouped =
            group_alike (from_taker d.by d.scopes) (from_taker d.by e.scopes)
            (from_alike d.by d.scopes e.scopes z);
        passes = passing_alike d.by d.scopes e.scopes z;
      })

-- What is moved.

-- a position goes so many places further on
abbrev pub Moved : ℕ → ℕ → ℕ → Type 0
Moved k a b = b ≡ moved k a

pub moved_one : (k : ℕ) → ArePlacesOneToOne (Moved k)
moved_one k = record {
  one = λ a b c first second. first ∙ sym second;
  other = λ a b c first second. moved-same k a b (sym first ∙ second);
}

scope_moved : (k : ℕ) (s : Scope) → ScopesAlike (Moved k) s (moved_scope k s)
scope_moved k Wrapper = wrappers
scope_moved k Top = tops
scope_moved k (Inner kind a) = inners refl

scopes_moved : (k : ℕ) (ss : List Scope) →
    AllZip (ScopesAlike (Moved k)) ss (map (moved_scope k) ss)
scopes_moved k [] = tt
scopes_moved k (s ∷ ss) = (scope_moved k s, scopes_moved k ss)

pub goes_moved : (k : ℕ) (d : Declared) → ExcludesAlike (ScopesAlike (Moved k)) d (moved_declared k d)
goes_moved k d = goes_alike (Moved k) d (moved_declared k d) refl (scopes_moved k d.scopes)

-- ---- rising

-- they come in order, from this place on and before that
abbrev pub Rises : ℕ → ℕ → List Declared → Type 0
Rises low high [] = Unit {0}
Rises low high (d ∷ ds) = (low ≤ d.place) × (d.place < high) × Rises (suc d.place) high ds

pub rises_wider : (low high less more : ℕ) (ds : List Declared) → less ≤ low → high ≤ more →
    Rises low high ds → Rises less more ds
rises_wider low high less more [] down up rise = tt
rises_wider low high less more (d ∷ ds) down up rise =
    let from = rise.0 in let to = rise.1 in (
      omega (arith, down, from),
      omega (arith, up, to),
      rises_wider (suc d.place) high (suc d.place) more ds (omega arith) up rise.2,
    )

pub rises_within : (low high : ℕ) (ds : List Declared) → Rises low high ds → (d : Declared) →
    IsAmong ds d → (low ≤ d.place) × (d.place < high)
rises_within low high [] rise d (i, at) = absurd (none-some d at)
rises_within low high (e ∷ ds) rise d (zero, at) =
    let same : e.place ≡ d.place = ap (λ (x : Declared). x.place) (same_Some e d at) in
    let from = rise.0 in let to = rise.1 in
    (omega (arith, same, from), omega (arith, same, to))
rises_within low high (e ∷ ds) rise d (suc i, at) =
    let its = rises_within (suc e.place) high ds rise.2 d (i, at) in
    let from = rise.0 in let later = its.0 in
    (omega (arith, from, later), its.1)

pub rises_once : (low high : ℕ) (ds : List Declared) → Rises low high ds → (i j : ℕ)
    (a b : Declared) → slice_get ds i ≡ Some a → slice_get ds j ≡ Some b → a.place ≡ b.place →
    i ≡ j
rises_once low high [] rise i j a b at there same = absurd (none-some a at)
rises_once low high (d ∷ ds) rise zero zero a b at there same = refl
rises_once low high (d ∷ ds) rise zero (suc j) a b at there same =
    let here : d.place ≡ a.place = ap (λ (x : Declared). x.place) (same_Some d a at) in
    let later = (rises_within (suc d.place) high ds rise.2 b (j, there)).0 in
    absurd (omega (arith, same, here, later))
rises_once low high (d ∷ ds) rise (suc i) zero a b at there same =
    let here : d.place ≡ b.place = ap (λ (x : Declared). x.place) (same_Some d b there) in
    let later = (rises_within (suc d.place) high ds rise.2 a (i, at)).0 in
    absurd (omega (arith, same, here, later))
rises_once low high (d ∷ ds) rise (suc i) (suc j) a b at there same =
    ap suc (rises_once (suc d.place) high ds rise.2 i j a b at there same)

module _ (reading : Reading) (kind : ModuleKind) where
  -- a name declares where it stands
  pub place_by : (o : Occurrence) (d : Declared) → declaration_of reading kind o ≡ Some d →
      d.place ≡ o.place
  place_by o d is = by (is_binding o.role) (way_of o.path) is
    where
      by : (b : Bool) (way : Option Way) →
          cond b (declared_by o.place (name_of reading o.sym o.ctxt) (scopes_around kind o.path) way) None ≡ Some d →
          d.place ≡ o.place
      by false way e = absurd (none-some d e)
      by true None e = absurd (none-some d e)
      by true (Some way) e = ap (λ (c : Declared). c.place) (sym (same_Some _ d e))

  one_more : (low high : ℕ) (o : Occurrence) (os : List Occurrence) → low ≤ o.place →
      o.place < high → Rises (suc o.place) high (declared_by_names reading kind os) →
      Rises low high (declared_by_names reading kind (o ∷ os))
  one_more low high o os from to rest = by (declaration_of reading kind o) (place_by o)
    where
      by : (q : Option Declared) → ((d : Declared) → q ≡ Some d → d.place ≡ o.place) →
          Rises low high (cons_option q (declared_by_names reading kind os))
      by None place =
          rises_wider (suc o.place) high low high (declared_by_names reading kind os)
          (omega (arith, from)) (omega arith) rest
      by (Some d) place =
          let same = place d refl in (
            omega (arith, from, same),
            omega (arith, to, same),
            subst (λ n. Rises (suc n) high (declared_by_names reading kind os)) (sym same) rest,
          )

  behind_one : (place : ℕ) (rest : List Item) (ds : List Declared) →
      Rises (place + 1) (place + 1 + length rest) ds →
      Rises (suc place) (place + suc (length rest)) ds
  behind_one place rest ds rise =
      rises_wider (place + 1) (place + 1 + length rest) (suc place) (place + suc (length rest)) ds
      (omega arith) (omega arith) rise

  pub names_rise : (s : Spot) (items : List Item) →
      Rises s.place (s.place + length items) (declared_by_names reading kind (occurrences_from s items))
  names_rise s [] = tt
  names_rise s (h.Open field head ∷ rest) =
      rises_wider (s.place + 1) (s.place + 1 + length rest) s.place (s.place + suc (length rest)) _
      (omega arith) (omega arith) (names_rise (past s (h.Open field head)) rest)
  names_rise s (h.Ident field x ctxt TheVariants.Word ∷ rest) =
      rises_wider (s.place + 1) (s.place + 1 + length rest) s.place (s.place + suc (length rest)) _
      (omega arith) (omega arith) (names_rise (past s (h.Ident field x ctxt TheVariants.Word)) rest)
  names_rise s (h.Ident field x ctxt TheVariants.Binding ∷ rest) =
      one_more s.place (s.place + suc (length rest))
      (record { place = s.place; sym = x; ctxt = ctxt; role = TheVariants.Binding; path = in_field field s.path })
      (occurrences_from (past s (h.Ident field x ctxt TheVariants.Binding)) rest) (omega arith) (omega arith)
      (behind_one s.place rest _ (names_rise (past s (h.Ident field x ctxt TheVariants.Binding)) rest))
  names_rise s (h.Ident field x ctxt TheVariants.Reference ∷ rest) =
      one_more s.place (s.place + suc (length rest))
      (record { place = s.place; sym = x; ctxt = ctxt; role = TheVariants.Reference; path = in_field field s.path })
      (occurrences_from (past s (h.Ident field x ctxt TheVariants.Reference)) rest) (omega arith) (omega arith)
      (behind_one s.place rest _ (names_rise (past s (h.Ident field x ctxt TheVariants.Reference)) rest))
  names_rise s (h.Hole field ∷ rest) =
      rises_wider (s.place + 1) (s.place + 1 + length rest) s.place (s.place + suc (length rest)) _
      (omega arith) (omega arith) (names_rise (past s (h.Hole field)) rest)
  names_rise s (h.Close ∷ rest) =
      rises_wider (s.place + 1) (s.place + 1 + length rest) s.place (s.place + suc (length rest)) _
      (omega arith) (omega arith) (names_rise (past s h.Close) rest)

  -- where a node begins, names stand behind its beginning
  pub names_behind : (s : Spot) (field : ℕ) (head : h.Head) (rest : List Item) →
      Rises (suc s.place) (s.place + suc (length rest))
      (declared_by_names reading kind (occurrences_from s (h.Open field head ∷ rest)))
  names_behind s field head rest =
      behind_one s.place rest _ (names_rise (past s (h.Open field head)) rest)

  -- what is declared behind other elements is declared
  pub declared_behind : (s : Spot) (xs ys : List Item) (d : Declared) →
      IsAmong (declared_from reading kind (fold past s xs) ys) d →
      IsAmong (declared_from reading kind s (xs ++ ys)) d
  declared_behind s [] ys d there = there
  declared_behind s (x ∷ xs) ys d there =
      by (declared_at reading kind s x (xs ++ ys)) (declared_behind (past s x) xs ys d there)
    where
      by : (q : Option Declared) → IsAmong (declared_from reading kind (past s x) (xs ++ ys)) d →
          IsAmong (cons_option q (declared_from reading kind (past s x) (xs ++ ys))) d
      by None it = it
      by (Some e) it = (suc it.0, it.1)

-- ---- stated

-- a name that binds, with its way
declares_by : (reading : _) (o : Occurrence) (w : Way) → is_binding o.role ≡ true →
    way_of o.path ≡ Some w →
    declaration_of reading Es o ≡ Some (record { place = o.place; name = name_of reading o.sym o.ctxt; by = w; scopes = scopes_around Es o.path })
declares_by reading o w binds is =
    ap
    (λ b. cond b (declared_by o.place (name_of reading o.sym o.ctxt) (scopes_around Es o.path) (way_of o.path)) None)
    binds
    ∙ ap (declared_by o.place (name_of reading o.sym o.ctxt) (scopes_around Es o.path)) is

declares_none : (reading : _) (o : Occurrence) → is_binding o.role ≡ false →
    declaration_of reading Es o ≡ None
declares_none reading o refers =
    ap
    (λ b. cond b (declared_by o.place (name_of reading o.sym o.ctxt) (scopes_around Es o.path) (way_of o.path)) None)
    refers

-- names in turn
module _ (R : ℕ → ℕ → Type 0) (g : Numbering) (ds : List Declared) (meta : Option Ident) where
  abbrev Before : List Occurrence → List Declared
  Before os = declared_by_names BySymbol Es os

  abbrev After : List Occurrence → List Declared
  After us = declared_by_names ByContext Es us

  abbrev Zip : List Declared → List Declared → Type 0
  Zip ds es = AllZip (Corresponds (ScopesAlike R)) ds es

  pub names_correspond : {os us : List Occurrence} {steps : List Step} →
      AllMade R meta os steps us → AllOf HasWay os → AllZip (KeepsBinding g ds) os steps →
      Zip (Before os) (After us)
  names_correspond done ways keeps = tt
  names_correspond (added {u = u} {os = os} {us = us} refers is more) ways keeps =
      subst (λ e. Zip (Before os) (cons_option e (After us))) (sym (declares_none ByContext u refers))
      (names_correspond more ways keeps)
  names_correspond (made {o = o} {u = u} {step = step} {os = os} {us = us} it more) ways keeps =
      by (is_binding o.role) refl (names_correspond more ways.1 keeps.1)
    where
      by : (b : Bool) → is_binding o.role ≡ b → Zip (Before os) (After us) →
          Zip (Before (o ∷ os)) (After (u ∷ us))
      by false role behind =
          subst (λ d. Zip (cons_option d (Before os)) (After (u ∷ us)))
          (sym (declares_none BySymbol o role))
          (subst (λ e. Zip (Before os) (cons_option e (After us)))
          (sym (declares_none ByContext u (ap is_binding it.role ∙ role))) behind)
      by true role behind =
          let way = ways.0 role in
          subst (λ d. Zip (cons_option d (Before os)) (After (u ∷ us)))
          (sym (declares_by BySymbol o way.0 role way.1))
          (subst
          (λ e. Zip (record { place = o.place; name = name_of BySymbol o.sym o.ctxt; by = way.0; scopes = scopes_around Es o.path } ∷ Before os) (cons_option e (After us)))
          (sym (declares_by ByContext u way.0 (ap is_binding it.role ∙ role) (it.way way.0 role way.1))) (
            record {
              goes = goes_alike R _ _ refl it.scopes;
              symbol = ap (λ (i : Ident). i.0) (it.ident ∙ keeps.0 role);
              plainly = refl;
            },
            behind,
          ))

-- The name of a default in front.

-- a way of which a name of the top stands once
pub record StandsOnce (way : Way) : Type 0 where
  pub once : stands_once way (Top ∷ []) ≡ true
  pub no_var : is_var way ≡ false
  pub takes_top : takes way Top ≡ true

itself_no_default : (field : ℕ) (head : Head) (inside : List Item) → states_itself head ≡ true →
    declares_default (h.Open field head ∷ inside) ≡ true → ⊥
itself_no_default field h.ExportDefaultExpr inside itself has = false≢true itself
itself_no_default field h.ExportDefaultDecl inside itself has = false≢true itself
itself_no_default field _ inside itself has = false≢true has

front_way : {work : Work} {default : Ident} {given item : List Item} →
    StatesList work default given item → declares_default given ≡ true → (u : Occurrence) →
    slice_get (occurrences_from first_spot item) 0 ≡ Some u →
    (way : Way) × (way_of u.path ≡ Some way) × StandsOnce way
front_way (Stated.StatementStates field head inside itself one) has u at =
    absurd (itself_no_default field head (inside ++ h.Close ∷ []) itself has)
front_way (Stated.DeclarationStates field inside one) has u at = absurd (false≢true has)
front_way (Stated.ValueStates field first more {value = value} one) has u at = (
  ByConst,
  sym (same_Some (Some ByConst) (way_of u.path) (ap (option_map (λ (o : Occurrence). way_of o.path)) at)),
  record { once = refl; no_var = refl; takes_top = refl },
)
front_way (Stated.OwnStates field inner name_field x ctxt role head body is one) has u at =
    absurd (false≢true has)
front_way {default = default} (Stated.DefaultStates field inner first_field head first more {made = within} is one) has u at =
    by head is at
  where
    by : (head : Head) → is_default_head head ≡ true →
        slice_get (occurrences_from first_spot (node 0 (declaration_head head) (named 0 default TheVariants.Binding ++ within))) 0 ≡ Some u →
        (way : Way) × (way_of u.path ≡ Some way) × StandsOnce way
    by h.FnExpr is at = (
      ByFunction,
      sym (same_Some (Some ByFunction) (way_of u.path) (ap (option_map (λ (o : Occurrence). way_of o.path)) at)),
      record { once = refl; no_var = refl; takes_top = refl },
    )
    by h.ClassExpr is at = (
      ByClass,
      sym (same_Some (Some ByClass) (way_of u.path) (ap (option_map (λ (o : Occurrence). way_of o.path)) at)),
      record { once = refl; no_var = refl; takes_top = refl },
    )
    by _ is at = absurd (false≢true is)

-- the module declares it where the export begins
nameless_here : {work : Work} {default : Ident} {given item : List Item} →
    StatesList work default given item → declares_default given ≡ true → (s : Spot)
    (tail : List Item) →
    slice_get (declared_from BySymbol Es s (cleared given ++ tail)) 0
    ≡ Some (nameless_default Es s.place)
nameless_here (Stated.StatementStates field head inside itself one) has s tail =
    absurd (itself_no_default field head (inside ++ h.Close ∷ []) itself has)
nameless_here (Stated.DeclarationStates field inside one) has s tail = absurd (false≢true has)
nameless_here (Stated.ValueStates field first more one) has s tail = refl
nameless_here (Stated.OwnStates field inner name_field x ctxt role head body is one) has s tail =
    absurd (false≢true has)
nameless_here (Stated.DefaultStates field inner first_field head first more is one) has s tail = refl

-- a name in front of the others goes with it
front_corresponds : (R : ℕ → ℕ → Type 0) (default : Ident) (u : Occurrence) → IsFront default u →
    (way : Way) → way_of u.path ≡ Some way → StandsOnce way → (place : ℕ) → default.0 ≡ codes "default" →
    Corresponds (ScopesAlike R) (nameless_default Es place)
    (record { place = u.place; name = name_of ByContext u.sym u.ctxt; by = way; scopes = scopes_around Es u.path })
front_corresponds R default u it way is its place called =
    subst
    (λ l. Corresponds (ScopesAlike R) (nameless_default Es place) (record { place = u.place; name = name_of ByContext u.sym u.ctxt; by = way; scopes = l }))
    (sym it.scopes)
    (record {
      goes = record {
        lexical = ap (stands_once way) taken ∙ its.once;
        is_var = its.no_var;
        taken = subst (λ l. ScopesAlike R Top (unwrap_or (nearest l) Top)) (sym taken) tops;
        grouped = subst (λ l. ScopesAlike R Top (group_of l)) (sym taken) tops;
        passes = subst (AllZip (ScopesAlike R) []) (sym passing) tt;
      };
      symbol = ap (λ (i : Ident). i.0) it.ident ∙ called;
      plainly = refl;
    })
  where
    taken : from_taker way (Top ∷ []) ≡ Top ∷ []
    taken = ap (λ b. cond b (Top ∷ []) []) its.takes_top

    passing : take_while (λ scope. not (takes way scope)) (Top ∷ []) ≡ []
    passing =
        take_while-cons (λ scope. not (takes way scope)) Top []
        ∙ ap (λ b. cond (not b) (Top ∷ []) []) its.takes_top

-- a top item begins with a node
begins_node : {work : Work} {default : Ident} {given item : List Item} →
    StatesList work default given item → declares_default given ≡ true →
    (field : ℕ) × (head : Head) × (rest : List Item) × (cleared given ≡ h.Open field head ∷ rest)
begins_node (Stated.StatementStates field head inside itself one) has =
    absurd (itself_no_default field head (inside ++ h.Close ∷ []) itself has)
begins_node (Stated.DeclarationStates field inside one) has = absurd (false≢true has)
begins_node (Stated.ValueStates field first more one) has = (field, h.ExportDefaultExpr, _, refl)
begins_node (Stated.OwnStates field inner name_field x ctxt role head body is one) has =
    absurd (false≢true has)
begins_node (Stated.DefaultStates field inner first_field head first more is one) has =
    (field, h.ExportDefaultDecl, _, refl)

-- COMES FROM ITS STATEMENT
module _ (tree : List Item) (g : Numbering) (its : Pairs) (meta : Option Ident) (place field : ℕ)
    (tail : List Item) {work : Work} {default : Ident} {given item : List Item}
    (stated : StatesList work default given item)
    (at : IsSpotAt tree (top_spot place field) (cleared given ++ tail))
    (called : default.0 ≡ codes "default")
    (there : (o : Occurrence) (i : ℕ) (d : Declared) → slice_get (occurrences_from (top_spot place field) (cleared given)) i ≡ Some o →
    declaration_of BySymbol Es o ≡ Some d → IsAmong (declared BySymbol Es tree) d)
    (named : IsNamed item) where
  abbrev R : ℕ → ℕ → Type 0
  R = Paired its

  abbrev s : Spot
  s = top_spot place field

  abbrev os : List Occurrence
  os = occurrences_from s (cleared given)

  abbrev mid : List Declared
  mid = declared_by_names BySymbol Es os

  abbrev Comes : List Occurrence → Type 0
  Comes us =
      ComesFrom (ScopesAlike R) (declared BySymbol Es tree) place (place + length (cleared given))
      (declared_by_names ByContext Es us)

  of_mid : (d : Declared) → IsAmong mid d → IsAmong (declared BySymbol Es tree) d
  of_mid d among =
      let it = picked (declaration_of BySymbol Es) os among.0 d among.1 in there it.1 it.0 d it.2 it.3

  comes_by : (source : List Declared) → ((d : Declared) → IsAmong source d → IsAmong (declared BySymbol Es tree) d) →
      Rises place (place + length (cleared given)) source → (us : List Occurrence) →
      AllZip (Corresponds (ScopesAlike R)) source (declared_by_names ByContext Es us) → Comes us
  comes_by source among rise us zip = record {
    source = source;
    there = among;
    within = rises_within place (place + length (cleared given)) source rise;
    once = λ i j a b first second same.
        inl (rises_once place (place + length (cleared given)) source rise i j a b first second same);
    alike = zip;
  }

  nameless_among : declares_default given ≡ true →
      IsAmong (declared BySymbol Es tree) (nameless_default Es place)
  nameless_among has =
      subst (λ l. IsAmong (declared BySymbol Es l) (nameless_default Es place)) (sym at.tree_is)
      (declared_behind BySymbol Es start at.front (cleared given ++ tail) (nameless_default Es place)
      (subst (λ q. IsAmong (declared_from BySymbol Es q (cleared given ++ tail)) (nameless_default Es place))
      at.spot_is (0, nameless_here stated has s tail)))

  pub comes : (front rest : List Occurrence) (steps : List Step) →
      AreFront default given front → AllMade R meta os steps rest → AllOf HasWay os →
      AllZip (KeepsBinding g (declared BySymbol Es tree)) os steps →
      occurrences_from first_spot item ≡ front ++ rest →
      ComesFrom (ScopesAlike R) (declared BySymbol Es tree) place (place + length (cleared given))
      (own_declared item)
  comes front rest steps fronts all ways keeps are =
      subst
      (ComesFrom (ScopesAlike R) (declared BySymbol Es tree) place (place + length (cleared given)))
      (sym (declared-item item named ∙ ap (declared_by_names ByContext Es) (item-occurrences item ∙ are)))
      (by fronts are)
    where
      zip : AllZip (Corresponds (ScopesAlike R)) mid (declared_by_names ByContext Es rest)
      zip = names_correspond R g (declared BySymbol Es tree) meta all ways keeps

      by : {front : List Occurrence} → AreFront default given front →
          occurrences_from first_spot item ≡ front ++ rest → Comes (front ++ rest)
      by (no_front none) is = comes_by mid of_mid (names_rise BySymbol Es s (cleared given)) rest zip
      by (one_front {u = u} has it) is =
          comes_by (nameless_default Es place ∷ mid) among rise (u ∷ rest)
          (subst
          (λ q. AllZip (Corresponds (ScopesAlike R)) (nameless_default Es place ∷ mid) (cons_option q (declared_by_names ByContext Es rest)))
          (sym (declares_by ByContext u way.0 (ap is_binding it.role) way.1))
          (front_corresponds R default u it way.0 way.1 way.2 place called, zip))
        where
          way : (way : Way) × (way_of u.path ≡ Some way) × StandsOnce way
          way = front_way stated has u (ap (λ l. slice_get l 0) is)

          among : (d : Declared) → IsAmong (nameless_default Es place ∷ mid) d →
              IsAmong (declared BySymbol Es tree) d
          among d (zero, same) =
              subst (IsAmong (declared BySymbol Es tree)) (same_Some (nameless_default Es place) d same)
              (nameless_among has)
          among d (suc i, later) = of_mid d (i, later)

          rise : Rises place (place + length (cleared given)) (nameless_default Es place ∷ mid)
          rise =
              let begins = begins_node stated has in
              subst
              (λ l. Rises place (place + length l) (nameless_default Es place ∷ declared_by_names BySymbol Es (occurrences_from s l)))
              (sym begins.3)
              (omega arith, omega arith, names_behind BySymbol Es s begins.0 begins.1 begins.2)

-- ---- own
only_top : (R : ℕ → ℕ → Type 0) {s t : Scope} → ScopesAlike R s t → t ≡ Top → s ≡ Top
only_top R tops e = refl
only_top R wrappers e = cc
only_top R (inners r) e = cc

in_function : (p : Program) {l : Label} → IsTopLabel p l ⊎ IsOfFunction p l →
    IsTopLabel p l ⊎ IsInFunction p l
in_function p (inl top) = inl top
in_function p (inr (a_name {c = c} {x = x} reached common)) =
    inr (record { c = c; x = x; reached = reached; common_js = common; is = inl refl })
in_function p (inr (a_parameter {c = c} {x = x} reached common)) =
    inr (record { c = c; x = x; reached = reached; common_js = common; is = inr refl })

-- what stands beside a statement comes from it
along_comes : (tree : List Item) (g : Numbering) (place field : ℕ) (tail : List Item) {work : Work}
    {default : Ident} {given item : List Item} {steps : List Step} {meta : Option Ident}
    {low high more last : ℕ} (os : List Occurrence) → StatesList work default given item →
    IsSpotAt tree (top_spot place field) (cleared given ++ tail) → default.0 ≡ codes "default" →
    (its : StatedBeside (top_spot place field) steps meta default given item low high) →
    IsAlongside (declared BySymbol Es tree) g place more last its.pairs meta default given os steps
    its.front its.rest → os ≡ occurrences_from (top_spot place field) (cleared given) →
    IsNamed item →
    ComesFrom (ScopesAlike (Paired its.pairs)) (declared BySymbol Es tree) place
    (place + length (cleared given)) (own_declared item)
along_comes tree g place field tail {steps = steps} {meta = meta} os stated at called its along are named =
    comes tree g its.pairs meta place field tail stated at called
    (λ o i d is declares. (subst Declares are along.declared) i o is d declares)
    named its.front its.rest steps its.are_front
    (subst (λ l. AllMade (Paired its.pairs) meta l steps its.rest) are along.all)
    (subst (AllOf HasWay) are along.ways)
    (subst (λ l. AllZip (KeepsBinding g (declared BySymbol Es tree)) l steps) are along.keeps)
    its.are
  where
    Declares : List Occurrence → Type 0
    Declares os =
        Each (λ o. (d : Declared) → declaration_of BySymbol Es o ≡ Some d →
        (i : ℕ) × (slice_get (declared BySymbol Es tree) i ≡ Some d)) os

module _ (p : Program) (list : List ℕ) (context : BundleContexts) (answers : ℕ → Option HookAnswer)
    (sound : AreTreesSound p list) (apart : TellApart p answers context) where
  stated_for : (m n : ℕ) (statement : List Element) (item : List Item) →
      (reached : IsReached p m) → (es : IsCommonJs p m → ⊥) →
      slice_get (own_statements (tree_of p m)) n ≡ Some statement →
      (its : IsStatedAs p list context m Es statement item) →
      IsStatementTold p list context m Es statement item its → IsNamed item → IsDeclaredFor p (Own m n) item
  stated_for m n statement item reached es at its its_told named =
      let labels : (l : Label) → IsMeant p l → IsTopLabel p l ⊎ IsInFunction p l =
      λ l meant. in_function p (meant-top p list sound meant) in
      let there = stand p list context answers sound apart m reached es statement item its its_told labels in
      let besides = beside p list context answers sound apart m reached es statement item its its_told labels in
      of_statement (ScopesAlike (Paired besides.pairs)) statement its.top
      (tells_alike (Paired besides.pairs) (one-to-one its.top.start 1 besides.pairs besides.rise))
      (λ s same. only_top (Paired besides.pairs) same refl) at its.there its.states
      (subst
      (λ l. ComesFrom (ScopesAlike (Paired besides.pairs)) (declared BySymbol Es (tree_of p m)) its.top.start (its.top.start + length l) (own_declared item))
      its.is_given
      (along_comes (tree_of p m) (numbers_in context m) its.top.start there.field there.tail
      (occurrences_in (tree_of p m) its.top) its.by
      (subst (λ l. IsSpotAt (tree_of p m) (top_spot its.top.start there.field) (l ++ there.tail))
      (sym its.is_given) there.at) refl besides
      (along p list context answers sound apart m reached es statement item its its_told labels)
      (os-are p list context answers sound apart m reached es statement item its its_told labels)
      named))

  -- WHAT IS MADE
  pub own-declared : (hooks : Hooks) (m n : ℕ) (item : List Item) → IsDue p AsModule (Own m n) →
      IsMade p hooks list context answers (Own m n) item → IsNamed item →
      IsDeclaredFor p (Own m n) item
  own-declared hooks m n item (Bundle.own reached es within) (Made.own statement at its) named =
      stated_for m n statement item reached es at its
      (told p list context sound reached (is_es es) statement
      (place-there (own_statements (tree_of p m)) n statement at) its) named
