-- What the names of an item mean that is made of a statement, and how its inner bindings are
-- numbered and called.
use Rattle.std.proofs.Common.{◌≡◌, ◌⊎◌, inl, inr, ◌↔◌, ℕ, zero, suc, ◌+◌, ◌==◌, Bool, true, false, cond, ◌&&◌, List, [], ◌∷◌, ◌++◌, Option, Some, None, filter, map, slice_get, bytes_eq, codes, find, refl, ap, sym, ◌∙◌, subst, arith, eqb-true, eq-eqb}
use Rattle.std.specs.Prelude.{position, ⊤}
use Rattle.std.specs.List.{AllZip}
use Rattle.std.proofs.lemmas.Bool.{false≢true, and_parts, and_from}
use Rattle.std.proofs.lemmas.Option.{none-some, same_Some}
use Rattle.std.proofs.lemmas.Slice.Eq.{bytes_eq-Decides}
use Rattle.bundle_syntax.specs.Item.{Item}
use Rattle.bundle_rules.specs.Places.{Occurrence, occurrences_from}
use Rattle.bundle_rules.specs.Scopes.{Es, Scope, ScopeKind, Parameters, Wrapper, Top, Inner, scopes_around}
use Rattle.bundle_rules.specs.Declarations.{BySymbol, Name, name_of, Declared, declared}
use Rattle.bundle_rules.specs.Homes.{is_arguments, is_function, binds}
use Rattle.bundle_rules.specs.Denotes.{Denoted, Bound, Global, bound_in, denoted_in, own_or_found, SameIdent}
use Rattle.bundle_rules.specs.Mentions.{same_denoted, same_context, each_denoted_once}
use Rattle.bundle_rules.specs.Idents.{Ident, ident_of}
use Rattle.bundle_rules.specs.Symbols.{denoted_symbol}
use Rattle.bundle_rules.specs.Meaning.{Label, Meant, Inside, Known, Unbound, is_inside}
use Rattle.bundle_rules.specs.Program.{Program, tree_of}
use Rattle.bundle_tree_rebuild.specs.Work.{Step}
use Rattle.bundle_scope_names.proofs.Numbering.{Numbering, context_of, is_written, given}
use Rattle.bundle_scope_names.proofs.FoundLemmas.{plain, written-same_order, arguments-bind}
use Rattle.bundle_scope_names.proofs.HomesLemmas.{find-nothing, iff}
use Rattle.bundle_scope_names.proofs.TreeLemmas.{DeclaresOrNot, DoesNot, Does, declares_or_not, IsFor, denoted-for}
use Rattle.bundle_merge_theory.specs.joined.Joined.{AllOf, own_declared}
use Rattle.bundle_merge_theory.specs.joined.Notes.{its_name, own_denoted, is_inner_denoted, is_inner_name, IsListedIn}
use Rattle.bundle_merge_theory.specs.joined.Alike.{ScopesAlike, tops, wrappers, inners}
use Rattle.bundle_merge_theory.proofs.joined.Declarations.{IsNamed}
use Rattle.bundle_merge_theory.proofs.joined.Paths.{item-occurrences, get-right}
use Rattle.bundle_merge_theory.specs.noted.Marked.{Note}
use Rattle.bundle_merge_theory.specs.walked.Keeps.{MeantIdent, meant_in}
use Rattle.bundle_merge_theory.specs.walked.Numbers.{AreDenotedOneToOne}
use Rattle.bundle_merge_theory.proofs.walked.NameLemmas.{numbers_agree, both_once}
use Rattle.bundle_merge_theory.specs.loaded.Pieces.{is_told_inside, told_inside}
use Rattle.bundle_merge_theory.specs.composed.Noted.{first_spot}
use Rattle.bundle_merge_theory.proofs.composed.Among.{pick}
use Rattle.bundle_merge_theory.specs.made.Given.{BundleContexts, numbers_in, ident_of_label}
use Rattle.bundle_merge_theory.specs.made.Alone.{IsTopLabel, IsInnerAlone}
use Rattle.bundle_merge_theory.specs.made.Told.{denoted_in_module, kept_ident, IsNamedFor, IsNotedStep, inside, known, unbound}
use Rattle.bundle_merge_theory.specs.own.Beside.{Pairs, Paired, MadeOf, IsFront, Aligned, al_done, al_step, al_meta}
use Rattle.bundle_merge_theory.proofs.own.Alongside.{declared_names, its_numbering, IsAlongside, one, IsKnownName}
use Rattle.bundle_merge_theory.proofs.own.Like.{FrontAligned}
use Rattle.bundle_merge_theory.proofs.own.Tree.{top-not-inner, outer-own, AreTold, IsStrange, strange-outside, inside-own}

module _ (p : Program) (list : List ℕ) (context : BundleContexts) (m : ℕ) (low high last : ℕ)
    (its : Pairs) (meta : Option Ident) (default : Ident) (given_items : List Item)
    (os : List Occurrence) (steps : List Step) (front rest : List Occurrence)
    (along : IsAlongside (declared BySymbol Es (tree_of p m)) (numbers_in context m) low high last
    its meta default given_items os steps front rest)
    (told : AreTold (declared BySymbol Es (tree_of p m)) (numbers_in context m) os)
    (item : List Item) (named : IsNamed item)
    (are : occurrences_from first_spot item ≡ front ++ rest) where
  abbrev ds : List Declared
  ds = declared BySymbol Es (tree_of p m)

  abbrev g : Numbering
  g = numbers_in context m

  abbrev f : Numbering
  f = its_numbering its g

  abbrev es : List Declared
  es = declared_names (front ++ rest)

  abbrev there : Occurrence → Denoted
  there o = denoted_in_module p m Es o

  -- the bindings inside the statement
  abbrev inner : List Denoted
  inner = each_denoted_once (filter (is_inside 0) (map there os))

  -- a binding inside the statement, and inside the item
  pub data Becomes : Denoted → Denoted → Type 0 where
    becomes : {kind : ScopeKind} {a b : ℕ} {x : List ℕ} →
        Paired its a b →
        Becomes (Bound (Inner kind a) (plain x)) (given f es (Bound (Inner kind b) (plain x)))

  pub becomes-one : AreDenotedOneToOne Becomes
  becomes-one _ _ _ _ (becomes {kind = kind} {a = a} {b = b} {x = x} r)
      (becomes {kind = its_kind} {a = c} {b = d} {x = y} q) =
      iff (same_denoted (Bound (Inner kind a) (plain x)) (Bound (Inner its_kind c) (plain y)))
      (same_denoted (given f es (Bound (Inner kind b) (plain x)))
      (given f es (Bound (Inner its_kind d) (plain y))))
      forward backward
    where
      context_at : ℕ → List ℕ → Option ℕ
      context_at n z = cond (is_written es (Inner kind n) z) (Some (f (n + 2) z)) None

      same_ctxt : (o : Option ℕ) → same_context o o ≡ true
      same_ctxt None = refl
      same_ctxt (Some n) = eq-eqb n n refl

      its_context : Option ℕ
      its_context = cond (is_written es (Inner its_kind d) y) (Some (f (d + 2) y)) None

      forward : (((a + 2 == c + 2) && bytes_eq x y) && true) ≡ true →
          (((b + 2 == d + 2) && bytes_eq x y) && same_context (context_at b x) its_context) ≡ true
      forward e =
          let parts = and_parts (a + 2 == c + 2) (bytes_eq x y)
          (and_parts ((a + 2 == c + 2) && bytes_eq x y) true e).0 in
          let places = eqb-true (a + 2) (c + 2) parts.0 in
          let a_is : a ≡ c = omega (arith, places) in
          let b_is : b ≡ d =
          (one ds g low high last its meta default given_items os steps front rest along).one c b d
          (subst (λ n. Paired its n b) a_is r) q in
          let symbols : x ≡ y = (bytes_eq-Decides x y).0 parts.1 in
          and_from ((b + 2 == d + 2) && bytes_eq x y) (same_context (context_at b x) its_context)
          (and_from (b + 2 == d + 2) (bytes_eq x y) (eq-eqb (b + 2) (d + 2) (ap (λ n. n + 2) b_is))
          parts.1)
          (ap (same_context (context_at b x))
          (ap (λ t. cond t (Some (f (d + 2) y)) None)
          (written-same_order es (Inner kind d) (Inner its_kind d) y refl)
          ∙ (λ i. context_at (sym b_is i) (sym symbols i)))
          ∙ same_ctxt (context_at b x))

      backward : (((b + 2 == d + 2) && bytes_eq x y) && same_context (context_at b x) its_context) ≡
          true →
          (((a + 2 == c + 2) && bytes_eq x y) && true) ≡ true
      backward e =
          let parts = and_parts (b + 2 == d + 2) (bytes_eq x y)
          (and_parts ((b + 2 == d + 2) && bytes_eq x y) (same_context (context_at b x) its_context)
          e).0 in
          let places = eqb-true (b + 2) (d + 2) parts.0 in
          let b_is : b ≡ d = omega (arith, places) in
          let a_is : a ≡ c =
          (one ds g low high last its meta default given_items os steps front rest along).other a c
          d (subst (λ n. Paired its a n) b_is r) q in
          and_from ((a + 2 == c + 2) && bytes_eq x y) true
          (and_from (a + 2 == c + 2) (bytes_eq x y) (eq-eqb (a + 2) (c + 2) (ap (λ n. n + 2) a_is))
          parts.1) refl

  -- what is so of a name of the item
  pub data NameMade (u : Occurrence) : Meant → Type 0 where
    made_in : {k : ℕ} (i : ℕ) (o : Occurrence) (kind : ScopeKind) (a b : ℕ) →
        slice_get os i ≡ Some o →
        there o ≡ Bound (Inner kind a) (plain o.sym) →
        Paired its a b →
        u.sym ≡ o.sym →
        u.ctxt ≡ g (a + 2) o.sym →
        own_denoted item u ≡ given f es (Bound (Inner kind b) (plain u.sym)) →
        position (same_denoted (there o)) inner ≡ Some k →
        NameMade u (Inside k)
    made_out : {l : Label} →
        IsStrange ds g os u.ctxt →
        is_inner_name (own_declared item) (its_name u) ≡ false →
        IsTopLabel p l →
        ident_of u ≡ ident_of_label p list context l →
        NameMade u (Known l)
    made_free : {x : List ℕ} →
        x ≡ u.sym →
        IsStrange ds g os u.ctxt →
        is_inner_denoted (own_denoted item u) ≡ false →
        is_inner_name (own_declared item) (its_name u) ≡ false →
        u.ctxt ≡ 1 →
        (u.sym ≡ codes "arguments" → find is_function (scopes_around Es u.path) ≡ None) →
        NameMade u (Unbound x)

  -- what is told of labels
  pub record IsTopName (l : Label) : Type 0 where
    pub top : IsTopLabel p l
    pub strange : IsStrange ds g os (ident_of_label p list context l).1

  listed-at : (j : ℕ) (u : Occurrence) → slice_get (front ++ rest) j ≡ Some u → IsListedIn item u
  listed-at j u at = (j, ap (λ l. slice_get l j) (item-occurrences item ∙ are) ∙ at)

  pub of-label : (j : ℕ) (u : Occurrence) → slice_get (front ++ rest) j ≡ Some u → (l : Label) →
      IsTopName l → ident_of u ≡ ident_of_label p list context l → NameMade u (Known l)
  of-label j u at l top is =
      let strange : IsStrange ds g os u.ctxt = subst (IsStrange ds g os)
      (sym (ap (λ (i : Ident). i.1) is)) top.strange in
      let no_inner =
      strange-outside ds g low high last its meta default given_items os steps front rest along told
      item named are u.sym u.ctxt strange in
      made_out strange no_inner top.top is

  -- what is told of each name of the statement
  pub record IsToldName (o : Occurrence) (step : Step) (note : Note) : Type 0 where
    pub noted : IsNotedStep p list context m Es inner o step note
    pub known_name : IsKnownName ds g low high last its meta default given_items os steps front rest
        along o
    pub label : (l : Label) → note.meant ≡ Known l → IsTopName l

  -- and what is so of the name that is made of it
  pub record StepMade (o u : Occurrence) (note : Note) : Type 0 where
    pub name : NameMade u note.meant
    pub same : is_inside 0 (there o) ≡ is_told_inside note.meant
    pub goes : is_inside 0 (there o) ≡ true → Becomes (there o) (own_denoted item u)

  inside-some : (o : Occurrence) (d : Denoted) → there o ≡ d → is_inside 0 d ≡ true →
      (kind : ScopeKind) × (a : ℕ) × (there o ≡ Bound (Inner kind a) (plain o.sym))
  inside-some o (Bound Wrapper name) is within = absurd (false≢true within)
  inside-some o (Bound Top name) is within = absurd (false≢true within)
  inside-some o (Bound (Inner kind a) name) is within =
      let symbol : name ≡ plain o.sym = subst (IsFor o.sym) is (denoted-for Es ds o) in
      (kind, a, is ∙ ap (Bound (Inner kind a)) symbol)
  inside-some o (Global x) is within = absurd (false≢true within)

  step-out : (o u : Occurrence) (note : Note) → is_inside 0 (there o) ≡ false →
      is_told_inside note.meant ≡ false → NameMade u note.meant → StepMade o u note
  step-out o u note out told_out it = record {
    name = it;
    same = out ∙ sym told_out;
    goes = λ within. absurd (false≢true (sym out ∙ within));
  }

  own-strange : IsStrange ds g os 1
  own-strange i o kind a at denotes x is = told.own i o kind a at denotes x is

  -- a global is bound by no function around it
  free-arguments : (o u : Occurrence) (step : Step) → MadeOf (Paired its) o u step →
      there o ≡ Global o.sym → u.sym ≡ o.sym → u.sym ≡ codes "arguments" →
      find is_function (scopes_around Es u.path) ≡ None
  free-arguments o u step it denotes symbol is =
      none-alike (scopes_around Es o.path) (scopes_around Es u.path) it.scopes
      (by (declares_or_not Es o))
    where
      none-alike : (ss ts : List Scope) → AllZip (ScopesAlike (Paired its)) ss ts →
          find is_function ss ≡ None → find is_function ts ≡ None
      none-alike [] [] z e = refl
      none-alike [] (t ∷ ts) z e = absurd z
      none-alike (s ∷ ss) [] z e = absurd z
      none-alike (s ∷ ss) (t ∷ ts) z e =
          ap (λ b. cond b (Some t) (find is_function ts)) (alike z.0)
          ∙ on (is_function s) e (none-alike ss ts z.1)
        where
          alike : {s t : Scope} → ScopesAlike (Paired its) s t → is_function t ≡ is_function s
          alike tops = refl
          alike wrappers = refl
          alike (inners {kind = kind} {a = a} {b = b} r) = kind_same kind
            where
              kind_same : (kind : ScopeKind) → is_function (Inner kind b) ≡ is_function
                  (Inner kind a)
              kind_same Parameters = refl
              kind_same _ = refl

          on : (b : Bool) → cond b (Some s) (find is_function ss) ≡ None →
              (find is_function ss ≡ None → find is_function ts ≡ None) →
              cond b (Some t) (find is_function ts) ≡ None
          on true e go = absurd (none-some s (sym e))
          on false e go = go e

      none-found : (x : Option Scope) → bound_in (plain o.sym) x ≡ Global o.sym → x ≡ None
      none-found None e = refl
      none-found (Some s) e = absurd cc

      by : DeclaresOrNot Es o → find is_function (scopes_around Es o.path) ≡ None
      by (Does way has_way here later) =
          absurd (no_bound (sym (ap (own_or_found ds
          (denoted_in BySymbol ds (scopes_around Es o.path) (name_of BySymbol o.sym o.ctxt))) here)
          ∙ denotes))
        where
          no_bound : {s : Scope} {name : Name} → Bound s name ≡ Global o.sym → ⊥
          no_bound e = cc
      by (DoesNot never) =
          find-nothing (λ s. binds ds s (plain o.sym)) is_function
          (λ s fun. arguments-bind ds o.sym s
          (and_from (is_arguments o.sym) (is_function s)
          ((bytes_eq-Decides o.sym (codes "arguments")).1 (sym symbol ∙ is)) fun))
          (scopes_around Es o.path)
          (none-found (find (λ s. binds ds s (plain o.sym)) (scopes_around Es o.path))
          (sym (ap (own_or_found ds (denoted_in BySymbol ds (scopes_around Es o.path)
          (name_of BySymbol o.sym o.ctxt))) (never BySymbol o.ctxt)) ∙ denotes))

  pub step-made : (j : ℕ) (o u : Occurrence) (step : Step) (note : Note) →
      slice_get (front ++ rest) j ≡ Some u → MadeOf (Paired its) o u step → IsToldName o step note →
      StepMade o u note
  step-made j o u step note at it its_told = by note.meant refl step.ident refl its_told.noted.named
    where
      by : (meant : Meant) → note.meant ≡ meant → (ident : Ident) → step.ident ≡ ident →
          IsNamedFor p list context m Es inner o meant ident → StepMade o u note
      by _ meant_is _ ident_is (inside {k = k} found is) =
          let some = inside-some o (there o) refl is in
          let ident : ident_of u ≡ kept_ident p context m Es o = it.ident ∙ ident_is in
          let made =
          inside-own ds g low high last its meta default given_items os steps front rest along told
          item named are j its_told.known_name.at o u step at its_told.known_name it ident some.0
          some.1 its_told.known_name.there some.2 in
          let symbol : u.sym ≡ o.sym = ap (λ (i : Ident). i.0) ident in
          record {
            name =
                subst (NameMade u) (sym meant_is)
                (made_in its_told.known_name.at o some.0 some.1 made.0 its_told.known_name.there
                some.2 made.1 symbol
                (ap (λ (i : Ident). i.1) ident ∙ ap (context_of g) some.2) made.2 found);
            same = is ∙ sym (ap is_told_inside meant_is);
            goes =
                λ within.
                subst (λ d. Becomes d (own_denoted item u)) (sym some.2)
                (subst (Becomes (Bound (Inner some.0 some.1) (plain o.sym)))
                (sym (made.2 ∙ ap (λ x. given f es (Bound (Inner some.0 made.0) (plain x))) symbol))
                (becomes made.1));
          }
      by _ meant_is _ ident_is (known {l = l} out meant) =
          let top = its_told.label l meant_is in
          let name = of-label j u at l top (it.ident ∙ ident_is) in
          step-out o u note out (ap is_told_inside meant_is) (subst (NameMade u) (sym meant_is) name)
      by _ meant_is _ ident_is (unbound denotes) =
          let ident = it.ident ∙ ident_is in
          let symbol : u.sym ≡ o.sym = ap (λ (i : Ident). i.0) ident in
          let first : u.ctxt ≡ 1 = ap (λ (i : Ident). i.1) ident in
          let strange : IsStrange ds g os u.ctxt = subst (IsStrange ds g os) (sym first)
          own-strange in
          let no_inner =
          strange-outside ds g low high last its meta default given_items os steps front rest along
          told item named are u.sym u.ctxt strange in
          let outer = outer-own item named u (listed-at j u at) no_inner (inr first) in
          step-out o u note (ap (is_inside 0) denotes) (ap is_told_inside meant_is)
          (subst (NameMade u) (sym meant_is)
          (made_free (sym symbol) strange outer no_inner first
          (free-arguments o u step it denotes symbol)))

  -- ENTRIES

  abbrev IsThere : Occurrence → Type 0
  IsThere u = (j : ℕ) × (slice_get (front ++ rest) j ≡ Some u)

  -- names, steps and notes that are told, in turn
  abbrev pub AllTold : List Occurrence → List Step → List Note → Type 0
  AllTold [] [] [] = ⊤
  AllTold (o ∷ some) (step ∷ by) (note ∷ notes) = IsToldName o step note × AllTold some by notes
  AllTold _ _ _ = ⊥

  -- what is so of entries
  pub record EntriesMade (entries : List MeantIdent) (some us : List Occurrence) : Type 0 where
    pub names : AllZip NameMade us (map meant_in entries)
    pub zipped : AllZip Becomes (filter (is_inside 0) (map there some))
        (told_inside (map (own_denoted item) us) (map meant_in entries))

  -- what is told to be no binding inside is left out
  told-out : (xs ys : List Denoted) (d : Denoted) (meant : Meant) →
      is_told_inside meant ≡ false → AllZip Becomes xs ys →
      AllZip Becomes xs (cond (is_told_inside meant) (d ∷ ys) ys)
  told-out xs ys d meant out all =
      subst (λ b. AllZip Becomes xs (cond b (d ∷ ys) ys)) (sym out) all

  pub entries-made : (means : Option Meant) →
      ((l : Meant) → means ≡ Some l → (lab : Label) × (l ≡ Known lab) × IsTopName lab ×
      (meta ≡ Some (ident_of_label p list context lab))) →
      {some us : List Occurrence} {by : List Step} {notes : List Note} {entries : List MeantIdent} →
      Aligned (Paired its) meta means some by notes entries us → AllTold some by notes →
      AllOf IsThere us → EntriesMade entries some us
  entries-made means of_meta al_done all_told here = record { names = tt; zipped = tt }
  entries-made means of_meta (al_step {o = o} {u = u} {step = step} {note = note} it more) all_told
      here =
      let ih = entries-made means of_meta more all_told.1 here.1 in
      let one_made = step-made here.0.0 o u step note here.0.1 it all_told.0 in
      record {
        names = (one_made.name, ih.names);
        zipped = pick Becomes (is_inside 0 (there o)) (is_told_inside note.meant) (there o)
            (own_denoted item u) _ _ one_made.same one_made.goes ih.zipped;
      }
  entries-made means of_meta (al_meta {u = u} {ident = ident} {meant = meant} refers ident_is
      meta_is means_is more) all_told here =
      let ih = entries-made means of_meta more all_told here.1 in
      let lab = of_meta meant means_is in
      let ident_here : ident_of u ≡ ident_of_label p list context lab.0 =
      same_Some _ _ (ap Some (sym ident_is) ∙ sym meta_is ∙ lab.3) in
      let name = of-label here.0.0 u here.0.1 lab.0 lab.2 ident_here in
      record {
        names = (subst (NameMade u) (sym lab.1) name, ih.names);
        zipped =
            told-out _ _ (own_denoted item u) meant (ap is_told_inside lab.1) ih.zipped;
      }

  -- ALL: with what stands in front

  -- the name of a default in front is one of the top
  abbrev pub FrontTold : Meant → Type 0
  FrontTold meant =
      (lab : Label) × (meant ≡ Known lab) × IsTopName lab ×
      (default ≡ ident_of_label p list context lab)

  pub record AllMadeNames (meants : List Meant) : Type 0 where
    pub names : AllZip NameMade (front ++ rest) meants
    pub zipped : AllZip Becomes (filter (is_inside 0) (map there os))
        (told_inside (map (own_denoted item) (front ++ rest)) meants)

  there-all : (some : List Occurrence) →
      ((j : ℕ) (u : Occurrence) → slice_get some j ≡ Some u → IsThere u) → AllOf IsThere some
  there-all [] here = tt
  there-all (u ∷ some) here = (here 0 u refl, there-all some (λ j v at. here (suc j) v at))

  pub all-made : {steps_too : List Step} {notes : List Note} {entries : List MeantIdent}
      (means : Option Meant) (its_meaning : Meant) →
      ((l : Meant) → means ≡ Some l → (lab : Label) × (l ≡ Known lab) × IsTopName lab ×
      (meta ≡ Some (ident_of_label p list context lab))) →
      (its_front : List (Ident × Meant)) →
      FrontAligned (Paired its) meta means default its_meaning os steps_too notes front rest
      its_front entries →
      AllTold os steps_too notes →
      ((u : Occurrence) → front ≡ u ∷ [] → FrontTold its_meaning) →
      AllMadeNames (map (λ pair. pair.1) its_front ++ map meant_in entries)
  all-made {entries = entries} means its_meaning of_meta its_front al all_told front_told = by
      al.both
    where
      here_rest : AllOf IsThere rest
      here_rest = there-all rest (λ j u at. get-right front rest j u at)

      made_rest : EntriesMade entries os rest
      made_rest = entries-made means of_meta al.aligned all_told here_rest

      meants_of : List (Ident × Meant) → List Meant
      meants_of l = map (λ pair. pair.1) l ++ map meant_in entries

      by : ((front ≡ []) × (its_front ≡ []))
          ⊎ ((u : Occurrence) × (front ≡ u ∷ []) × IsFront default u ×
          (its_front ≡ (default, its_meaning) ∷ [])) →
          AllMadeNames (map (λ pair. pair.1) its_front ++ map meant_in entries)
      by (inl none) = record {
        names =
            subst (λ us. AllZip NameMade us
            (map (λ pair. pair.1) its_front ++ map meant_in entries))
            (ap (λ l. l ++ rest) (sym none.0))
            (subst (λ l. AllZip NameMade rest (map (λ pair. pair.1) l ++ map meant_in entries))
            (sym none.1) made_rest.names);
        zipped =
            subst (λ us. AllZip Becomes (filter (is_inside 0) (map there os))
            (told_inside (map (own_denoted item) us) (meants_of its_front)))
            (ap (λ l. l ++ rest) (sym none.0))
            (subst (λ l. AllZip Becomes (filter (is_inside 0) (map there os))
            (told_inside (map (own_denoted item) rest) (meants_of l)))
            (sym none.1) made_rest.zipped);
      }
      by (inr one_there) =
          let u : Occurrence = one_there.0 in
          let lab = front_told u one_there.1 in
          let at : slice_get (front ++ rest) 0 ≡ Some u = ap (λ l. slice_get (l ++ rest) 0)
          one_there.1 in
          let name = of-label 0 u at lab.0 lab.2 (one_there.2.ident ∙ lab.3) in
          let meant : NameMade u its_meaning = subst (NameMade u) (sym lab.1) name in
          record {
            names =
                subst (λ us. AllZip NameMade us
                (map (λ pair. pair.1) its_front ++ map meant_in entries))
                (ap (λ l. l ++ rest) (sym one_there.1))
                (subst (λ l. AllZip NameMade (u ∷ rest)
                (map (λ pair. pair.1) l ++ map meant_in entries)) (sym one_there.3)
                (meant, made_rest.names));
            zipped =
                subst (λ us. AllZip Becomes (filter (is_inside 0) (map there os))
                (told_inside (map (own_denoted item) us) (meants_of its_front)))
                (ap (λ l. l ++ rest) (sym one_there.1))
                (subst (λ l. AllZip Becomes (filter (is_inside 0) (map there os))
                (told_inside (map (own_denoted item) (u ∷ rest)) (meants_of l)))
                (sym one_there.3)
                (told-out _ _ (own_denoted item u) its_meaning (ap is_told_inside lab.1)
                made_rest.zipped));
          }

  module _ (meants : List Meant) (all : AllMadeNames meants) where
    -- the bindings inside the item
    abbrev pub its_inner : List Denoted
    its_inner = each_denoted_once (told_inside (map (own_denoted item) (front ++ rest)) meants)

    pub same-number : (d e : Denoted) → Becomes d e →
        position (same_denoted d) inner ≡ position (same_denoted e) its_inner
    same-number d e r =
        numbers_agree Becomes becomes-one (filter (is_inside 0) (map there os))
        (told_inside (map (own_denoted item) (front ++ rest)) meants) all.zipped d e r

    -- CALLED
    symbols-same : (xs ys : List Denoted) → AllZip Becomes xs ys →
        map denoted_symbol ys ≡ map denoted_symbol xs
    symbols-same [] [] z = refl
    symbols-same [] (y ∷ ys) z = absurd z
    symbols-same (x ∷ xs) [] z = absurd z
    symbols-same (x ∷ xs) (y ∷ ys) z =
        ap (λ s. s ∷ map denoted_symbol ys) (by z.0) ∙ ap (λ l. denoted_symbol x ∷ l)
        (symbols-same xs ys z.1)
      where
        by : {x y : Denoted} → Becomes x y → denoted_symbol y ≡ denoted_symbol x
        by (becomes r) = refl

    pub same-symbols : map denoted_symbol its_inner ≡ map denoted_symbol inner
    same-symbols =
        symbols-same inner its_inner
        (both_once Becomes becomes-one (filter (is_inside 0) (map there os))
        (told_inside (map (own_denoted item) (front ++ rest)) meants) all.zipped)

    -- RESOLVED

    names-at : (j : ℕ) (u : Occurrence) → slice_get (front ++ rest) j ≡ Some u → (meant : Meant) ×
        NameMade u meant
    names-at j u at = go (front ++ rest) meants all.names j at
      where
        go : (us : List Occurrence) (ms : List Meant) → AllZip NameMade us ms → (j : ℕ) →
            slice_get us j ≡ Some u → (meant : Meant) × NameMade u meant
        go [] ms z j at = absurd (none-some u at)
        go (v ∷ us) [] z j at = absurd z
        go (v ∷ us) (meant ∷ ms) z zero at =
            (meant, subst (λ w. NameMade w meant) (same_Some v u at) z.0)
        go (v ∷ us) (meant ∷ ms) z (suc j) at = go us ms z.1 j at

    abbrev scope_of : Denoted → Scope
    scope_of (Bound s n) = s
    scope_of (Global x) = Top

    abbrev symbol_of : Denoted → List ℕ
    symbol_of (Bound s n) = n.sym
    symbol_of (Global x) = []

    abbrev place_of : Scope → ℕ
    place_of (Inner kind n) = n
    place_of s = 0

    both-names : (a b : Occurrence) {one_meant other : Meant} → NameMade a one_meant → NameMade b
        other → IsListedIn item a → IsListedIn item b →
        IsInnerAlone p list context item a → IsInnerAlone p list context item b →
        SameIdent a b ↔ (own_denoted item a ≡ own_denoted item b)
    both-names a b (made_out {l = l} strange no_inner top ident) two la lb is also = absurd
        (top-not-inner p list context item named a la no_inner l top ident is)
    both-names a b (made_free same strange outer no_inner first arg) two la lb is also = absurd
        (false≢true (sym outer ∙ is.is))
    both-names a b (made_in i o kind x y at denotes r symbol ctxt its_own found)
        (made_out {l = l} strange no_inner top ident) la lb is also =
        absurd (top-not-inner p list context item named b lb no_inner l top ident also)
    both-names a b (made_in i o kind x y at denotes r symbol ctxt its_own found)
        (made_free equal strange outer no_inner first arg) la lb is also =
        absurd (false≢true (sym outer ∙ also.is))
    both-names a b (made_in i o kind x y at denotes r symbol ctxt its_own found)
        (made_in j q its_kind z w there_too denotes_too r_too symbol_too ctxt_too own_too found_too)
        la lb is also = (forward, backward)
      where
        forward : SameIdent a b → own_denoted item a ≡ own_denoted item b
        forward same =
            let x_is : x ≡ z = told.apart i j o q kind its_kind x z at there_too denotes denotes_too
            o.sym q.sym (sym ctxt ∙ same.1 ∙ ctxt_too) in
            let kinds : kind ≡ its_kind = told.kinds i j o q kind its_kind x at there_too denotes
            (subst (λ n. there q ≡ Bound (Inner its_kind n) (plain q.sym)) (sym x_is)
            denotes_too) in
            let y_is : y ≡ w =
            (one ds g low high last its meta default given_items os steps front rest along).one z y
            w (subst (λ n. Paired its n y) x_is r) r_too in
            its_own
            ∙ (λ i. given f es (Bound (Inner (kinds i) (y_is i)) (plain (same.0 i))))
            ∙ sym own_too

        backward : own_denoted item a ≡ own_denoted item b → SameIdent a b
        backward same =
            let both = sym its_own ∙ same ∙ own_too in
            let symbols : a.sym ≡ b.sym = ap symbol_of both in
            let y_is : y ≡ w = ap (λ d. place_of (scope_of d)) both in
            let x_is : x ≡ z =
            (one ds g low high last its meta default given_items os steps front rest along).other x
            z w (subst (λ n. Paired its x n) y_is r) r_too in (
              symbols,
              ctxt ∙ (λ i. g (x_is i + 2) ((sym symbol ∙ symbols ∙ symbol_too) i)) ∙ sym
                  ctxt_too,
            )

    pub resolved-inside : (a b : Occurrence) → IsListedIn item a → IsListedIn item b →
        IsInnerAlone p list context item a → IsInnerAlone p list context item b →
        SameIdent a b ↔ (own_denoted item a ≡ own_denoted item b)
    resolved-inside a b listed other is also =
        let one_name = names-at listed.0 a
        (ap (λ l. slice_get l listed.0) (sym (item-occurrences item ∙ are)) ∙ listed.1) in
        let two_name = names-at other.0 b
        (ap (λ l. slice_get l other.0) (sym (item-occurrences item ∙ are)) ∙ other.1) in
        both-names a b one_name.1 two_name.1 listed other is also
