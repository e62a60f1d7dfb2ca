-- A load function declares no name twice, as its module does not.
-- Forms in which few names are declared: lists of exports, objects of namespaces, and the helper.
use Rattle.std.proofs.Common.{◌≡◌, ◌≤◌, ◌<◌, ◌⊎◌, inl, inr, ℕ, zero, suc, ◌+◌, ◌&&◌, ◌||◌, not, Bool, true, false, cond, List, [], ◌∷◌, Some, None, is_some, length, map, slice_get, unwrap_or, codes, refl, ap, ap₂, sym, ◌∙◌, subst, arith, ne_eqb, ◌++◌, bytes_eq}
use Rattle.std.specs.Prelude.{take_while, flat_map, if◌then◌else◌}
use Rattle.std.specs.List.{AllZip, list_any, cons_option}
use Rattle.std.proofs.lemmas.Bool.{false≢true, and_parts, or_cases, true≢false}
use Rattle.std.proofs.lemmas.List.Sums.{take_while-cons}
use Rattle.std.proofs.lemmas.Option.{same_Some, none-some}
use Rattle.bundle_syntax.specs.Item as h
use Rattle.bundle_syntax.specs.Item.{Item, Head}
use Rattle.bundle_syntax.specs.declared.kind.VarDeclKind.TheVariants.{Const}
use Rattle.bundle_syntax.specs.declared.piece.Role.TheVariants
use Rattle.bundle_rules.specs.Scopes.{Cjs, Scope, ScopeKind, Wrapper, Top, Inner, Parameters, FunctionBody, StaticBody, CatchBlock, FunctionName, same_scope, Es}
use Rattle.bundle_rules.specs.Declarations.{Way, ByImport, ByVar, ByLet, ByConst, ByFunction, ByClass, ByDefault, ByParameter, ByCatch, ByLoop, ByFunctionName, ByClassName, ByWrapper, BySymbol, names_agree, Declared, wrapper_parameter, ByContext, is_nameless_default, nameless_default, declared_from}
use Rattle.bundle_rules.specs.Doubled.{may_double_functions, stands_once, is_lexical, is_var, stands_beside, passes_scope_of, excludes}
use Rattle.bundle_rules.specs.Homes.{takes, from_taker, nearest, taker, group_of}
use Rattle.bundle_rules.specs.Idents.{Ident}
use Rattle.bundle_rules.specs.Places.{Spot, start, past, is_binding}
use Rattle.bundle_rules.specs.Forms.{returned_key, returned_property, returned_object}
use Rattle.bundle_rules.specs.Injected.{is_ascii_identifier}
use Rattle.bundle_rules.specs.Nodes.{Text}
use Rattle.bundle_rules.specs.Parts.{tree_of_items}
use Rattle.bundle_rules.specs.Rebuilds.{plain_key}
use Rattle.bundle_rules.specs.Statements.{no_notes}
use Rattle.bundle_tree_places.specs.Edits.{node}
use Rattle.bundle_scope_names.proofs.Numbering.{Numbering, lifted}
use Rattle.bundle_scope_names.proofs.HomesLemmas.{Each, IsBySymbol}
use Rattle.bundle_merge_injected.specs.Listed
use Rattle.bundle_merge_theory.specs.joined.Joined.{own_declared}
use Rattle.bundle_merge_theory.specs.loaded.Framed.{Beside, top, wrapper, inner, Framed, outside, within, is_wrapper_way, IsSeatedPair, DeclaredBeside, of_wrapper, of_body, AllBeside, none, more}
use Rattle.bundle_merge_theory.specs.loaded.Item.{load_item, module_start, declared_by_names}
use Rattle.bundle_merge_theory.specs.loaded.Kept.{load_declared, moved_numbering}
use Rattle.bundle_merge_theory.proofs.loaded.Pieces.{turned-frame}
use Rattle.bundle_merge_theory.specs.loaded.Loaded.{module_declared, module_names, function_declared, IsLoadedItem}
use Rattle.bundle_merge_theory.specs.loaded.Turned.{Turned, NodeGoes as Leads}
use Rattle.bundle_merge_theory.proofs.loaded.Beside.{same-beside}
use Rattle.bundle_merge_theory.proofs.joined.Denotes.{takes-relocated}
use Rattle.bundle_merge_theory.proofs.loaded.Noted.{declared-module, all-beside, plainly, declared-item}
use Rattle.bundle_merge_theory.specs.undoubled.Clashing.{IsAmong, NoneClash, TellsScopes, scopes_passed, ExcludesAlike, Corresponds, ComesFrom}
use Rattle.bundle_merge_theory.proofs.undoubled.Joined.{none_alike, source_of}
use Rattle.bundle_merge_theory.proofs.undoubled.Clash.{rises_within, rises_once, names_rise}
use Rattle.bundle_merge_theory.proofs.undoubled.Added.{none_of_none, none_of_one}

-- ---- function
module _ (R : ℕ → ℕ → Type 0) where
  takes_framed : (way : Way) (kind : ScopeKind) (a b : ℕ) →
      takes way (Inner kind b) ≡ takes way (Inner kind a)
  takes_framed way kind a b = takes-relocated (λ n. b) way (Inner kind a)

  -- a declaration with the scopes from which it is taken on, and those that it passes
  record Taken (way : Way) (ss ts : List Scope) : Type 0 where
    from : Framed R (from_taker way ss) (from_taker way ts)
    passes : AllZip (Beside R) (take_while (λ scope. not (takes way scope)) ss)
        (take_while (λ scope. not (takes way scope)) ts)

  taken_outside : (way : Way) → is_wrapper_way way ≡ false →
      is_some (nearest (from_taker way (Top ∷ Wrapper ∷ []))) ≡ true →
      Taken way (Top ∷ Wrapper ∷ []) (Inner FunctionBody 21 ∷ Inner Parameters 10 ∷ Inner FunctionName 9 ∷ Top ∷ [])
  taken_outside ByImport own taken = absurd (false≢true (sym own))
  taken_outside ByVar own taken = record { from = outside; passes = tt }
  taken_outside ByLet own taken = record { from = outside; passes = tt }
  taken_outside ByConst own taken = record { from = outside; passes = tt }
  taken_outside ByFunction own taken = record { from = outside; passes = tt }
  taken_outside ByClass own taken = record { from = outside; passes = tt }
  taken_outside ByDefault own taken = absurd (false≢true (sym own))
  taken_outside ByParameter own taken = absurd (false≢true taken)
  taken_outside ByCatch own taken = absurd (false≢true taken)
  taken_outside ByLoop own taken = absurd (false≢true taken)
  taken_outside ByFunctionName own taken = absurd (false≢true taken)
  taken_outside ByClassName own taken = absurd (false≢true taken)
  taken_outside ByWrapper own taken = absurd (false≢true (sym own))

  abbrev Both : List Scope → List Scope → List Scope → List Scope → Type 0
  Both x y u v = Framed R x y × AllZip (Beside R) u v

  taken_framed : (way : Way) {ss ts : List Scope} → Framed R ss ts → is_wrapper_way way ≡ false →
      is_some (nearest (from_taker way ss)) ≡ true → Taken way ss ts
  taken_framed way outside own taken = taken_outside way own taken
  taken_framed way (within {kind = kind} {a = a} {b = b} {ss = ss} {ts = ts} r framed) own taken =
      let it = so (λ further. taken_framed way framed own further) in
      record { from = it.0; passes = it.1 }
    where
      by : (t : Bool) → is_some (nearest (cond t (Inner kind a ∷ ss) (from_taker way ss))) ≡ true →
          (is_some (nearest (from_taker way ss)) ≡ true → Taken way ss ts) →
          Both (cond t (Inner kind a ∷ ss) (from_taker way ss)) (cond t (Inner kind b ∷ ts) (from_taker way ts))
          (cond (not t) (Inner kind a ∷ take_while (λ scope. not (takes way scope)) ss) [])
          (cond (not t) (Inner kind b ∷ take_while (λ scope. not (takes way scope)) ts) [])
      by true is further = (within r framed, tt)
      by false is further = let rest = further is in (rest.from, (inner r, rest.passes))

      so : (is_some (nearest (from_taker way ss)) ≡ true → Taken way ss ts) →
          Both (from_taker way (Inner kind a ∷ ss)) (from_taker way (Inner kind b ∷ ts))
          (take_while (λ scope. not (takes way scope)) (Inner kind a ∷ ss))
          (take_while (λ scope. not (takes way scope)) (Inner kind b ∷ ts))
      so further =
          subst
          (λ v. Both (from_taker way (Inner kind a ∷ ss)) (from_taker way (Inner kind b ∷ ts)) (take_while (λ scope. not (takes way scope)) (Inner kind a ∷ ss)) v)
          (sym (take_while-cons (λ scope. not (takes way scope)) (Inner kind b) ts))
          (subst
          (λ u. Both (from_taker way (Inner kind a ∷ ss)) (from_taker way (Inner kind b ∷ ts)) u (cond (not (takes way (Inner kind b))) (Inner kind b ∷ take_while (λ scope. not (takes way scope)) ts) []))
          (sym (take_while-cons (λ scope. not (takes way scope)) (Inner kind a) ss))
          (subst
          (λ t. Both (cond (takes way (Inner kind a)) (Inner kind a ∷ ss) (from_taker way ss)) (cond t (Inner kind b ∷ ts) (from_taker way ts)) (cond (not (takes way (Inner kind a))) (Inner kind a ∷ take_while (λ scope. not (takes way scope)) ss) []) (cond (not t) (Inner kind b ∷ take_while (λ scope. not (takes way scope)) ts) []))
          (sym (takes_framed way kind a b))
          (by (takes way (Inner kind a)) taken further)))

  or_framed : {s t : Scope} → Beside R s t → {ss ts : List Scope} → Framed R ss ts →
      Beside R (unwrap_or (nearest ss) s) (unwrap_or (nearest ts) t)
  or_framed its outside = top
  or_framed its (within r framed) = inner r

  group_framed : {ss ts : List Scope} → Framed R ss ts → Beside R (group_of ss) (group_of ts)
  group_framed outside = wrapper
  group_framed (within {kind = kind} {a = a} {b = b} {ss = ss} {ts = ts} r framed) = by kind
    where
      by : (kind : ScopeKind) → Beside R (group_of (Inner kind a ∷ ss)) (group_of (Inner kind b ∷ ts))
      by FunctionBody = or_framed (inner r) framed
      by CatchBlock = or_framed (inner r) framed
      by _ = inner r

  first_framed : {ss ts : List Scope} → Framed R ss ts →
      Beside R (unwrap_or (nearest ss) Top) (unwrap_or (nearest ts) Top)
  first_framed outside = top
  first_framed (within r framed) = inner r

  doubles_framed : {ss ts : List Scope} → Framed R ss ts →
      may_double_functions ts ≡ may_double_functions ss
  doubles_framed outside = refl
  doubles_framed (within {kind = kind} {a = a} {b = b} {ss = ss} {ts = ts} r framed) = by kind
    where
      by : (kind : ScopeKind) →
          may_double_functions (Inner kind b ∷ ts) ≡ may_double_functions (Inner kind a ∷ ss)
      by FunctionBody = refl
      by StaticBody = refl
      by _ = refl

  once_framed : (way : Way) {ss ts : List Scope} → Framed R ss ts →
      stands_once way ts ≡ stands_once way ss
  once_framed ByFunction framed = ap not (doubles_framed framed)
  once_framed ByImport framed = refl
  once_framed _ framed = refl

  -- what is declared in the function goes with what the module declares
  goes_seated : (d e : Declared) → IsSeatedPair R d e → ExcludesAlike (Beside R) d e
  goes_seated d e s =
      subst
      (λ way. ExcludesAlike (Beside R) d (record { place = e.place; name = e.name; by = way; scopes = e.scopes }))
      (sym s.by)
      (let its = taken_framed d.by s.scopes s.own s.taken in
      record {
        lexical = once_framed d.by its.from;
        is_var = refl;
        taken = first_framed its.from;
        grouped = group_framed its.from;
        passes = its.passes;
      })

  goes_beside : {d e : Declared} → DeclaredBeside R d e → ExcludesAlike (Beside R) d e
  goes_beside (of_wrapper place x) = record {
    lexical = refl;
    is_var = refl;
    taken = wrapper;
    grouped = wrapper;
    passes = tt;
  }
  goes_beside (of_body {d = d} {e = e} s) = goes_seated d e s

  plain_beside : {d e : Declared} → DeclaredBeside R d e → e.name.ctxt ≡ None →
      (e.name.sym ≡ d.name.sym) × (d.name.ctxt ≡ None)
  plain_beside (of_wrapper place x) plain = (refl, refl)
  plain_beside (of_body s) plain =
      (ap (λ n. n.sym) s.name, ap (λ n. n.ctxt) (sym s.name) ∙ plain)

  correspond : (f : Numbering) (all : List Declared) {ds es : List Declared} → AllBeside R ds es →
      Each IsBySymbol es → AllZip (Corresponds (Beside R)) ds (map (lifted f all) es)
  correspond f all none plain = tt
  correspond f all (more {d = d} {e = e} one rest) plain =
      let goes = goes_beside one in
      let names = plain_beside one (plain 0 e refl) in (
        record {
          goes = record {
            lexical = goes.lexical;
            is_var = goes.is_var;
            taken = goes.taken;
            grouped = goes.grouped;
            passes = goes.passes;
          };
          symbol = names.0;
          plainly = names.1;
        },
        correspond f all rest (λ i c at. plain (suc i) c at),
      )

  -- none is of the top of the bundle
  never_top : {s t : Scope} → Beside R s t → same_scope Top t ≡ false
  never_top top = refl
  never_top wrapper = refl
  never_top (inner {b = b} r) = ne_eqb 1 (b + 2) (λ e. omega (arith, e))

  never_passed : (ss ts : List Scope) → AllZip (Beside R) ss ts →
      list_any (same_scope Top) ts ≡ false
  never_passed [] [] z = refl
  never_passed [] (t ∷ ts) z = absurd z
  never_passed (s ∷ ss) [] z = absurd z
  never_passed (s ∷ ss) (t ∷ ts) z =
      ap₂ (λ (a : Bool) (b : Bool). a || b) (never_top z.0) (never_passed ss ts z.1)

  never_excludes : (d e : Declared) → Corresponds (Beside R) d e → (x : List ℕ) (c : ℕ) →
      excludes e (load_declared x c) ≡ true → ⊥
  never_excludes d e its x c is =
      by (or_cases (is_lexical e && stands_beside e (load_declared x c)) (passes_scope_of e (load_declared x c)) is)
    where
      beside : stands_beside e (load_declared x c) ≡ true → ⊥
      beside stands =
          on (or_cases (same_scope Top (taker e)) (same_scope Top (group_of (from_taker e.by e.scopes))) stands)
        where
          on : (same_scope Top (taker e) ≡ true) ⊎ (same_scope Top (group_of (from_taker e.by e.scopes)) ≡ true) → ⊥
          on (inl y) = false≢true (sym (never_top its.goes.taken) ∙ y)
          on (inr y) = false≢true (sym (never_top its.goes.grouped) ∙ y)

      by : ((is_lexical e && stands_beside e (load_declared x c)) ≡ true) ⊎ (passes_scope_of e (load_declared x c) ≡ true) → ⊥
      by (inl y) = beside (and_parts (is_lexical e) (stands_beside e (load_declared x c)) y).1
      by (inr y) =
          false≢true
          (sym (never_passed (scopes_passed d) (scopes_passed e) its.goes.passes)
          ∙ (and_parts (is_var e.by) (list_any (same_scope Top) (scopes_passed e)) y).1)

-- one more in front, which excludes none and which none excludes
pub more_none : (first : Declared) (rest : List Declared) →
    ((e : Declared) → IsAmong rest e → (excludes first e ≡ true → ⊥) × (excludes e first ≡ true → ⊥)) →
    NoneClash rest → NoneClash (first ∷ rest)
more_none first rest apart others a b (zero, one) (zero, two) its =
    its.apart (ap (λ (c : Declared). c.place) (sym (same_Some first a one) ∙ same_Some first b two))
more_none first rest apart others a b (zero, one) (suc j, two) its = by its.excluded
  where
    same : first ≡ a
    same = same_Some first a one

    by : (excludes a b ≡ true) ⊎ (excludes b a ≡ true) → ⊥
    by (inl x) = (apart b (j, two)).0 (ap (λ c. excludes c b) same ∙ x)
    by (inr y) = (apart b (j, two)).1 (ap (λ c. excludes b c) same ∙ y)
more_none first rest apart others a b (suc i, one) (zero, two) its = by its.excluded
  where
    same : first ≡ b
    same = same_Some first b two

    by : (excludes a b ≡ true) ⊎ (excludes b a ≡ true) → ⊥
    by (inl x) = (apart a (i, one)).1 (ap (λ c. excludes a c) same ∙ x)
    by (inr y) = (apart a (i, one)).0 (ap (λ c. excludes c a) same ∙ y)
more_none first rest apart others a b (suc i, one) (suc j, two) its = others a b (i, one) (j, two) its

module _ {L : Ident → Type 0} {xs ys : List Item} (w : Turned L zero xs ys) (g : Numbering)
    (load helper m e : Ident) (its : IsLoadedItem g w load m e) where
  abbrev R : ℕ → ℕ → Type 0
  R = Leads w 1 22

  abbrev high : ℕ
  high = 2 + length xs

  abbrev mid : List Declared
  mid = declared_by_names BySymbol Cjs (module_names xs)

  abbrev lift : List Declared
  lift = map (lifted (moved_numbering (turned-frame w).from g) (function_declared ys)) (function_declared ys)

  mid_within : (d : Declared) → IsAmong mid d → (1 ≤ d.place) × (d.place < high)
  mid_within d there =
      let it = rises_within 1 (1 + length xs) mid (names_rise BySymbol Cjs module_start xs) d there in
      let below = it.1 in
      (it.0, omega (arith, below))

  all_within : (d : Declared) → IsAmong (module_declared xs) d → (0 ≤ d.place) × (d.place < high)
  all_within d (i, at) = by i (sym (ap (λ l. slice_get l i) (declared-module w)) ∙ at)
    where
      by : (i : ℕ) →
          slice_get (wrapper_parameter (codes "module") ∷ wrapper_parameter (codes "exports") ∷ declared_by_names BySymbol Cjs (module_names xs)) i ≡ Some d →
          (0 ≤ d.place) × (d.place < high)
      by zero is =
          let place : 0 ≡ d.place = ap (λ (c : Declared). c.place) (same_Some _ d is) in
          (omega arith, omega (arith, place))
      by (suc zero) is =
          let place : 0 ≡ d.place = ap (λ (c : Declared). c.place) (same_Some _ d is) in
          (omega arith, omega (arith, place))
      by (suc (suc i)) is =
          let its_place = (mid_within d (i, is)).1 in (omega arith, its_place)

  all_once : (i j : ℕ) (a b : Declared) → slice_get (module_declared xs) i ≡ Some a →
      slice_get (module_declared xs) j ≡ Some b → a.place ≡ b.place →
      (i ≡ j) ⊎ (names_agree a.name b.name ≡ false)
  all_once i j a b one two same =
      by i j (sym (ap (λ l. slice_get l i) (declared-module w)) ∙ one)
      (sym (ap (λ l. slice_get l j) (declared-module w)) ∙ two)
    where
      apart : (c d : Declared) → 0 ≡ c.place → (k : ℕ) → slice_get (declared_by_names BySymbol Cjs (module_names xs)) k ≡ Some d →
          c.place ≡ d.place → ⊥
      apart c d first k at places =
          let above = (mid_within d (k, at)).0 in omega (arith, above, first, places)

      place_of : (c d : Declared) → Some c ≡ Some d → c.place ≡ d.place
      place_of c d e = ap (λ (q : Declared). q.place) (same_Some c d e)

      by : (i j : ℕ) →
          slice_get (wrapper_parameter (codes "module") ∷ wrapper_parameter (codes "exports") ∷ declared_by_names BySymbol Cjs (module_names xs)) i ≡ Some a →
          slice_get (wrapper_parameter (codes "module") ∷ wrapper_parameter (codes "exports") ∷ declared_by_names BySymbol Cjs (module_names xs)) j ≡ Some b →
          (i ≡ j) ⊎ (names_agree a.name b.name ≡ false)
      by zero zero x y = inl refl
      by zero (suc zero) x y =
          inr
          (ap₂ (λ (c : Declared) (d : Declared). names_agree c.name d.name) (sym (same_Some _ a x))
          (sym (same_Some _ b y)))
      by zero (suc (suc j)) x y =
          absurd (apart a b (place_of (wrapper_parameter (codes "module")) a x) j y same)
      by (suc zero) zero x y =
          inr
          (ap₂ (λ (c : Declared) (d : Declared). names_agree c.name d.name) (sym (same_Some _ a x))
          (sym (same_Some _ b y)))
      by (suc zero) (suc zero) x y = inl refl
      by (suc zero) (suc (suc j)) x y =
          absurd (apart a b (place_of (wrapper_parameter (codes "exports")) a x) j y same)
      by (suc (suc i)) zero x y =
          absurd (apart b a (place_of (wrapper_parameter (codes "module")) b y) i x (sym same))
      by (suc (suc i)) (suc zero) x y =
          absurd (apart b a (place_of (wrapper_parameter (codes "exports")) b y) i x (sym same))
      by (suc (suc i)) (suc (suc j)) x y =
          inl
          (ap (λ n. suc (suc n))
          (rises_once 1 (1 + length xs) (declared_by_names BySymbol Cjs (module_names xs))
          (names_rise BySymbol Cjs module_start xs) i j a b x y same))

  comes : ComesFrom (Beside R) (module_declared xs) 0 high lift
  comes = record {
    source = module_declared xs;
    there = λ d there. there;
    within = all_within;
    once = all_once;
    alike =
        correspond R (moved_numbering (turned-frame w).from g) (function_declared ys)
        (all-beside w g load helper m e its) (plainly w g load helper m e its);
  }

  tells : TellsScopes (Beside R)
  tells s t u v first second = same-beside R (turned-frame w) first second

  -- THE LOAD FUNCTION
  pub load-none : NoneClash (module_declared xs) →
      NoneClash (own_declared (load_item load helper m e ys))
  load-none none_there =
      subst NoneClash (sym (declared-item w g load helper m e its))
      (more_none (load_declared load.0 load.1) lift apart
      (none_alike (Beside R) tells (module_declared xs) 0 high lift comes none_there))
    where
      apart : (e : Declared) → IsAmong lift e →
          (excludes (load_declared load.0 load.1) e ≡ true → ⊥)
          × (excludes e (load_declared load.0 load.1) ≡ true → ⊥)
      apart e there =
          let from = source_of (Beside R) tells (module_declared xs) 0 high lift comes e there in (
            λ is. false≢true is,
            λ is. never_excludes R from.0 e from.2 load.0 load.1 is,
          )

-- ---- quiet

-- an element that declares nothing
abbrev IsQuiet : Item → Type 0
IsQuiet (h.Open field h.ExportDefaultExpr) = ⊥
IsQuiet (h.Open field h.ExportDefaultDecl) = ⊥
IsQuiet (h.Open field head) = Unit {0}
IsQuiet (h.Ident field x ctxt role) = is_binding role ≡ false
IsQuiet (h.Hole field) = Unit {0}
IsQuiet h.Close = Unit {0}

abbrev AreQuiet : List Item → Type 0
AreQuiet [] = Unit {0}
AreQuiet (x ∷ rest) = IsQuiet x × AreQuiet rest

quiet_head : (field : ℕ) (head : Head) (rest : List Item) → IsQuiet (h.Open field head) →
    is_nameless_default (h.Open field head) rest ≡ false
quiet_head field h.ExportDefaultExpr rest quiet = absurd quiet
quiet_head field h.ExportDefaultDecl rest quiet = absurd quiet
quiet_head field _ rest quiet = refl

quiet_nothing : (s : Spot) (items : List Item) → AreQuiet items →
    declared_from ByContext Es s items ≡ []
quiet_nothing s [] are = refl
quiet_nothing s (h.Open field head ∷ rest) are =
    ap
    (λ b. cons_option (cond b (Some (nameless_default Es s.place)) None) (declared_from ByContext Es (past s (h.Open field head)) rest))
    (quiet_head field head rest are.0)
    ∙ quiet_nothing (past s (h.Open field head)) rest are.1
quiet_nothing s (h.Ident field x ctxt TheVariants.Binding ∷ rest) are = absurd (true≢false are.0)
quiet_nothing s (h.Ident field x ctxt TheVariants.Reference ∷ rest) are =
    quiet_nothing (past s (h.Ident field x ctxt TheVariants.Reference)) rest are.1
quiet_nothing s (h.Ident field x ctxt TheVariants.Word ∷ rest) are =
    quiet_nothing (past s (h.Ident field x ctxt TheVariants.Word)) rest are.1
quiet_nothing s (h.Hole field ∷ rest) are = quiet_nothing (past s (h.Hole field)) rest are.1
quiet_nothing s (h.Close ∷ rest) are = quiet_nothing (past s h.Close) rest are.1

quiet_both : (xs ys : List Item) → AreQuiet xs → AreQuiet ys → AreQuiet (xs ++ ys)
quiet_both [] ys one two = two
quiet_both (x ∷ xs) ys one two = (one.0, quiet_both xs ys one.1 two)

quiet_node : (field : ℕ) (head : Head) (inside : List Item) → IsQuiet (h.Open field head) →
    AreQuiet inside → AreQuiet (node field head inside)
quiet_node field head inside quiet are =
    (quiet, quiet_both inside (h.Close ∷ []) are (tt, tt))

quiet_each : {A : Type 0} (f : A → List Item) → ((x : A) → AreQuiet (f x)) → (xs : List A) →
    AreQuiet (flat_map f xs)
quiet_each f are [] = tt
quiet_each f are (x ∷ xs) = quiet_both (f x) (flat_map f xs) (are x) (quiet_each f are xs)

-- The list of exports.

quiet_outer : (x : Text) → AreQuiet (Listed.export_name_in 1 x)
quiet_outer x = by (is_ascii_identifier x)
  where
    by : (is : Bool) → AreQuiet (if is then h.Ident 1 x 0 TheVariants.Word ∷ [] else Listed.string_in 1 x)
    by true = (refl, tt)
    by false = (tt, (tt, tt))

quiet_export : (pair : Text × Ident) → AreQuiet (Listed.export_specifier pair)
quiet_export pair =
    quiet_node 0 h.ExportNamedSpecifier (Listed.named 0 TheVariants.Reference pair.1 ++ Listed.export_name_in 1 pair.0)
    tt (refl, quiet_outer pair.0)

pub exports-none : (pairs : List (Text × Ident)) → NoneClash (own_declared (Listed.export_list pairs))
exports-none pairs =
    subst NoneClash
    (sym
    (quiet_nothing start (tree_of_items (Listed.export_list pairs)) (
      tt,
      quiet_both (Listed.export_list pairs) (h.Close ∷ [])
          (quiet_node 0 (h.NamedExport no_notes) (flat_map Listed.export_specifier pairs) tt
          (quiet_each Listed.export_specifier quiet_export pairs)) (tt, tt),
    )))
    none_of_none

-- The object of a namespace.

quiet_key : (x : Text) → AreQuiet (returned_key x)
quiet_key x = by (bytes_eq x (codes "__proto__")) (is_ascii_identifier x)
  where
    by : (is plain : Bool) →
        AreQuiet
        (if is then h.Open 0 h.ComputedPropName ∷ h.Open 0 (h.Str x None) ∷ h.Close ∷ h.Close ∷ [] else (if plain then plain_key x else h.Open 0 (h.Str x None) ∷ h.Close ∷ []))
    by true plain = (tt, (tt, (tt, (tt, tt))))
    by false true = (tt, (tt, tt))
    by false false = (tt, (tt, tt))

quiet_property : (pair : Text × Ident) → AreQuiet (returned_property pair)
quiet_property pair = (
  tt,
  quiet_both (returned_key pair.0) (h.Ident 1 pair.1.0 pair.1.1 TheVariants.Reference ∷ h.Close ∷ [])
      (quiet_key pair.0) (refl, (tt, tt)),
)

quiet_returned : (pairs : List (Text × Ident)) → AreQuiet (returned_object pairs)
quiet_returned pairs = (
  tt,
  (
    tt,
    quiet_both (flat_map returned_property pairs) (h.Close ∷ h.Close ∷ [])
        (quiet_each returned_property quiet_property pairs) (tt, (tt, tt)),
  ),
)

none_first : (all : List Declared) (d : Declared) (rest : List Declared) → all ≡ d ∷ rest →
    rest ≡ [] → NoneClash all
none_first all d rest is nothing =
    subst NoneClash (sym (is ∙ ap (λ ds. d ∷ ds) nothing)) (none_of_one d)

pub namespace-none : (object : Ident) (pairs : List (Text × Ident)) →
    NoneClash (own_declared (Listed.namespace_object no_notes object pairs))
namespace-none object pairs =
    none_first (own_declared (Listed.namespace_object no_notes object pairs)) _ _ refl
    (quiet_nothing
    (past (past (past (past (past start (h.Open 0 h.Module)) (h.Open 0 (h.VarDecl Const no_notes))) (h.Open 1 h.VarDeclarator)) (h.Open 0 h.BindingIdent)) (h.Ident 0 object.0 object.1 TheVariants.Binding))
    (h.Close ∷ (((value ++ h.Close ∷ []) ++ h.Close ∷ []) ++ h.Close ∷ [])) (
      tt,
      quiet_both ((value ++ h.Close ∷ []) ++ h.Close ∷ []) (h.Close ∷ [])
          (quiet_both (value ++ h.Close ∷ []) (h.Close ∷ [])
          (quiet_both value (h.Close ∷ []) quiet (tt, tt)) (tt, tt)) (tt, tt),
    ))
  where
    value : List Item
    value = Listed.call_in 1 (node 0 h.FnExpr (Listed.function_in 1 [] (returned_object pairs))) []

    quiet : AreQuiet (Listed.call_in 1 (node 0 h.FnExpr (Listed.function_in 1 [] (returned_object pairs))) [])
    quiet =
        quiet_node 1 h.CallExpr (node 0 h.FnExpr (Listed.function_in 1 [] (returned_object pairs)) ++ []) tt
        (quiet_both (node 0 h.FnExpr (Listed.function_in 1 [] (returned_object pairs))) []
        (quiet_node 0 h.FnExpr (Listed.function_in 1 [] (returned_object pairs)) tt
        (quiet_node 1 (h.Function false false) (node 1 h.BlockStmt (returned_object pairs)) tt
        (quiet_node 1 h.BlockStmt (returned_object pairs) tt (quiet_returned pairs)))) tt)

-- The helper.

one_apart : (first c : Declared) → excludes first c ≡ false → excludes c first ≡ false →
    (e : Declared) → IsAmong (c ∷ []) e →
    (excludes first e ≡ true → ⊥) × (excludes e first ≡ true → ⊥)
one_apart first c x y e (zero, at) = (
  λ is. false≢true (sym x ∙ ap (excludes first) (same_Some c e at) ∙ is),
  λ is. false≢true (sym y ∙ ap (λ d. excludes d first) (same_Some c e at) ∙ is),
)
one_apart first c x y e (suc i, at) = absurd (none-some e at)

two_apart : (first b c : Declared) → excludes first b ≡ false → excludes b first ≡ false →
    excludes first c ≡ false → excludes c first ≡ false → (e : Declared) →
    IsAmong (b ∷ c ∷ []) e → (excludes first e ≡ true → ⊥) × (excludes e first ≡ true → ⊥)
two_apart first b c x y z u e (zero, at) = (
  λ is. false≢true (sym x ∙ ap (excludes first) (same_Some b e at) ∙ is),
  λ is. false≢true (sym y ∙ ap (λ d. excludes d first) (same_Some b e at) ∙ is),
)
two_apart first b c x y z u e (suc i, at) = one_apart first c z u e (i, at)

three_none : (a b c : Declared) → excludes a b ≡ false → excludes b a ≡ false →
    excludes a c ≡ false → excludes c a ≡ false → excludes b c ≡ false → excludes c b ≡ false →
    NoneClash (a ∷ b ∷ c ∷ [])
three_none a b c x y z u v t =
    more_none a (b ∷ c ∷ []) (two_apart a b c x y z u)
    (more_none b (c ∷ []) (one_apart b c v t) (none_of_one c))

pub helper-none : (helper f m : Ident) → NoneClash (own_declared (Listed.helper_function helper f m))
helper-none helper f m = three_none _ _ _ refl refl refl refl refl refl
