-- Where modules stand for each other, their lists do too; and by the places of a list the list is
-- that of all numbers below its length.
-- What is noted of the files of a program: each request of a reached module leads to a module, and
-- the graph has the requests of each.
-- Modules that stand for each other request modules that do, in one order.
-- What a bundler knows of a program makes the program by places sound.
use Rattle.std.proofs.Common.{◌≡◌, inl, inr, ℕ, zero, suc, ◌+◌, List, [], ◌∷◌, ◌++◌, Some, Contains, length, refl, sym, ap₂, subst, arith, Option, None, ap, ◌∙◌, Bool, true, false, not, nat_eq, cond, eqb-true, eq-eqb}
use Rattle.std.specs.Prelude.{slice_get, option_map, string_bytes, filter, filter_map}
use Rattle.std.specs.List.{AllZip, cons_option}
use Rattle.std.specs.declared.alloc.Global.{Global}
use Rattle.std.specs.declared.string.String.{String}
use Rattle.std.specs.declared.vec.Vec.{Vec}
use Rattle.std.proofs.lemmas.List.{length-map}
use Rattle.std.proofs.lemmas.Option.{none-some, same_Some, slice_get-map, slice_get_within}
use Rattle.std.proofs.lemmas.Bool.{false≢true}
use Rattle.bundle_tree_names.specs.FileName.{Name as FileName}
use Rattle.bundle_order_graph.specs.Order.{Lists, finished, passed, listed}
use Rattle.bundle_order_graph.specs.Modules.{deps as noted}
use Rattle.bundle_syntax.specs.Item.{Item}
use Rattle.bundle_rules.specs.Nodes.{Text, numbers_once}
use Rattle.bundle_rules.specs.Program.{Program, requested, IsReached, tree_of, resolves, is_external, IsList}
use Rattle.bundle_rules.specs.Judging.{requests_in}
use Rattle.bundle_rules.specs.Scopes.{ModuleKind}
use Rattle.bundle_rules.specs.Declarations.{Declared as Declaration}
use Rattle.bundle_rules.specs.Doubled.{first_doubled}
use Rattle.bundle_rules.specs.Entries.{declared_requests}
use Rattle.bundle_rules.specs.Faults.{Fault, ProgramFault, IsFaultless, doubled_declaration}
use Rattle.bundle_rules.specs.Meaning.{HasKind}
use Rattle.bundle_link_index.proofs.ProgramLemmas.{later, first_or_later, got}
use Rattle.bundle_scope_names.specs.fit.Sorts.{AModule}
use Rattle.bundle_scope_names.specs.fit.Fits.{IsFit}
use Rattle.bundle_link_targets.proofs.ListLemmas.{first-there as here}
use Rattle.bundle_link.specs.Alike.{IsModuleAt, IsAlike}
use Rattle.bundle_link.specs.Files.{AreNotedOf, IsLed, module_led_to, numbers_of}
use Rattle.bundle_link.specs.Reached.{IsReachedOf}
use Rattle.bundle_link.specs.declared.files.Files.{Files}
use Rattle.bundle_link.specs.declared.reached.Reached.{Reached}
use Rattle.bundle_link.proofs.NumberLemmas.{held}
use Rattle.bundle_link.proofs.NumbersLemmas.{there_is}
use Rattle.bundle_link.proofs.RequestLemmas.{requested_by}
use Rattle.bundle_link.proofs.ReachedLemmas.{key, some_of_all}
use Rattle.bundle_link.proofs.AlikeLemmas.{flip, resolves_on, same_asked, reached_on, same_outside}
use Rattle.bundle_link.proofs.LeadLemmas.{declared_requested}
use Rattle.bundle_link.proofs.FaultLemmas.{fault_on}
use Rattle.bundle_link.proofs.MeantLemmas.{namespace_meant}
use Rattle.bundle_merge_theory.specs.planned.Decided.{numbers_from}
use Rattle.bundle_merge_theory.proofs.planned.OrderLemmas.{no_element, map_back}
use Rattle.bundle_merge_theory.proofs.laid.Ready.{zip-join}
use Rattle.bundle_merge_theory.specs.sound.Known.{LeadsAll, AreKnown}
use Rattle.bundle_merge_theory.specs.fit.Programs.{HasFitTrees}
use Rattle.bundle_merge_theory.specs.made.Alone.{AreTreesSound}

-- ---- listing
module _ (R : ℕ → ℕ → Type 0) where
  -- what stands for an element of one list is one of the other
  there-on : ((a b c : ℕ) → R a b → R a c → b ≡ c) → (xs ys : List ℕ) → AllZip R xs ys →
      (m k : ℕ) → R m k → Contains xs m → Contains ys k
  there-on one [] ys z m k r c = absurd (no_element c)
  there-on one (x ∷ xs) [] z m k r c = absurd z
  there-on one (x ∷ xs) (y ∷ ys) z m k r c = elim (first_or_later x xs m c) [
    | inl e ↦ subst (Contains (y ∷ ys)) (one x y k z.0 (subst (λ n. R n k) (sym e) r)) (here y ys)
    | inr rest ↦ later y ys k (there-on one xs ys z.1 m k r rest)
  ]

  there-back : ((a b c : ℕ) → R b a → R c a → b ≡ c) → (xs ys : List ℕ) → AllZip R xs ys →
      (m k : ℕ) → R m k → Contains ys k → Contains xs m
  there-back other xs [] z m k r c = absurd (no_element c)
  there-back other [] (y ∷ ys) z m k r c = absurd z
  there-back other (x ∷ xs) (y ∷ ys) z m k r c = elim (first_or_later y ys k c) [
    | inl e ↦ subst (Contains (x ∷ xs)) (other y x m z.0 (subst (λ n. R m n) (sym e) r)) (here x xs)
    | inr rest ↦ later x xs m (there-back other xs ys z.1 m k r rest)
  ]

  module _ (one : (a b c : ℕ) → R a b → R a c → b ≡ c) (other : (a b c : ℕ) → R b a → R c a → b ≡ c) (f g : ℕ → List ℕ) (same : (m k : ℕ) → R m k → AllZip R (f m) (g k)) where
    -- listing one and the other makes lists that stand for each other
    pub lists-alike : {begun done todo all : List ℕ} → Lists f begun done todo all →
        (b d t : List ℕ) → AllZip R begun b → AllZip R done d → AllZip R todo t →
        (a : List ℕ) × AllZip R all a × Lists g b d t a
    lists-alike finished b d [] zb zd zt = (d, zd, finished)
    lists-alike finished b d (k ∷ t) zb zd zt = absurd zt
    lists-alike (passed {n = n} there more) b d [] zb zd zt = absurd zt
    lists-alike (passed {begun = begun} {done = done} {n = n} there more) b d (k ∷ t) zb zd zt =
        let rest = lists-alike more b d t zb zd zt.1 in
        let both = zip-join R begun done b d zb zd in
        (rest.0, rest.1, passed (there-on one (begun ++ done) (b ++ d) both n k zt.0 there) rest.2)
    lists-alike (listed {n = n} new first more) b d [] zb zd zt = absurd zt
    lists-alike (listed {begun = begun} {done = done} {before = before} {n = n} new first more) b d (k ∷ t) zb zd zt =
        let inner = lists-alike first (k ∷ b) d (g k) (zt.0, zb) zd (same n k zt.0) in
        let rest = lists-alike more b (inner.0 ++ k ∷ []) t zb
        (zip-join R before (n ∷ []) inner.0 (k ∷ []) inner.1 (zt.0, tt)) zt.1 in
        let both = zip-join R begun done b d zb zd in (
          rest.0,
          rest.1,
          listed (λ c. new (there-back other (begun ++ done) (b ++ d) both n k zt.0 c)) inner.2
              rest.2,
        )

-- the numbers that stand for a list by its own places
pub places-of : (ids : List ℕ) → ((a b c : ℕ) → IsModuleAt ids a b → IsModuleAt ids a c → b ≡ c) → (i : ℕ) →
    (xs ys : List ℕ) → AllZip (IsModuleAt ids) xs ys →
    ((j m : ℕ) → slice_get xs j ≡ Some m → IsModuleAt ids m (i + j)) → ys ≡ numbers_from i (length xs)
places-of ids one i [] [] z each = refl
places-of ids one i [] (y ∷ ys) z each = absurd z
places-of ids one i (x ∷ xs) [] z each = absurd z
places-of ids one i (x ∷ xs) (y ∷ ys) z each =
    let zero_i : i + 0 ≡ i = omega arith in
    ap₂ (λ (n : ℕ) (rest : List ℕ). n ∷ rest)
    (one x y i z.0 (subst (IsModuleAt ids x) zero_i (each zero x refl)))
    (places-of ids one (suc i) xs ys z.1
    (λ j m e. let next : i + suc j ≡ suc i + j = omega arith in subst (IsModuleAt ids m) next
    (each (suc j) m e)))

-- ---- noted
module _ (p : Program) (files : Files) (w : AreNotedOf p files) where
  abbrev ids : List ℕ
  ids = files.ids.keys

  -- where a file's requests lead, and the file that is noted
  its_deps : (m : ℕ) → Contains ids m → (place : ℕ) × (its : Vec (String Global × ℕ) Global)
      × (slice_get ids place ≡ Some m) × (slice_get files.deps.now place ≡ Some its)
      × IsLed p ids m its.items
  its_deps m there =
      let k = got ids m there in
      let at : slice_get (numbers_of files.files.now) k.0 ≡ Some m =
      ap (λ (l : List ℕ). slice_get l k.0) (sym w.ids) ∙ k.1 in
      let within = slice_get_within (numbers_of files.files.now) k.0 m at in
      let long = length-map files.files.now (λ e. e.1) in
      let its = there_is files.deps.now k.0 (omega (arith, within, long, w.files.long)) in (
        k.0,
        its.0,
        k.1,
        its.1,
        subst (λ (l : List ℕ). IsLed p l m its.0.items) (sym w.ids)
            (w.files.led k.0 m its.0 at its.1),
      )

  noted_as : (m : ℕ) → Contains ids m → noted files.graph m ≡ requested p m
  noted_as m there =
      let d = its_deps m there in
      w.graph.own d.0 m d.1 (slice_get_within files.deps.now d.0 d.1 d.3) d.2 d.3
      ∙ ap numbers_once
      (sym
      (some_of_all (λ (dep : String Global × ℕ). p.leads m (string_bytes dep.0)) module_led_to
      d.1.items (λ dep at. (d.4.leads dep at).0)))
      ∙ requested_by p m key d.1.items (p.leads m) d.4.asked (λ s. refl)

  module _ (found : Reached) (r : IsReachedOf p files.ids.keys found) where
    -- a reached module is one of the files
    reached-there : (m : ℕ) → IsReached p m → Contains ids m
    reached-there m reached =
        let k = got found.list.items m ((r.reached m).1 reached) in
        by (slice_get found.places.items k.0)
        (sym (slice_get-map (slice_get ids) found.places.items k.0)
        ∙ ap (λ l. slice_get l k.0) r.places
        ∙ slice_get-map (λ n. Some n) found.list.items k.0
        ∙ ap (option_map (λ n. Some n)) k.1)
      where
        by : (o : Option ℕ) → option_map (slice_get ids) o ≡ Some (Some m) → Contains ids m
        by None e = absurd (none-some (Some m) e)
        by (Some place) e = held ids m place (same_Some (slice_get ids place) (Some m) e)

    -- each of its requests leads to a module
    pub leads-all : LeadsAll p
    leads-all m s reached asks =
        let d = its_deps m (reached-there m reached) in
        let its =
        map_back key d.1.items s
        (subst (λ (texts : List Text). Contains texts s) (sym d.4.asked) asks) in
        (its.0.1, ap (p.leads m) (sym its.2) ∙ (d.4.leads its.0 its.1).0)

    -- and they are in the graph
    pub graph-noted : (m : ℕ) → IsReached p m → noted files.graph m ≡ requested p m
    graph-noted m reached = noted_as m (reached-there m reached)

-- ---- requests
module _ (p q : Program) (R : ℕ → ℕ → Type 0) (w : IsAlike p q R) where
  none-forth : (m k : ℕ) (s : Text) → R m k → Contains (requests_in p.settings (tree_of p m)) s →
      resolves p m s ≡ None → (d : ℕ) → resolves q k s ≡ Some d → ⊥
  none-forth m k s r asked e d f =
      let l =
      resolves_on q p (λ a b. R b a) (flip w) k m d s r
      (subst (λ texts. Contains texts s) (same_asked p q R w m k r) asked) f in
      none-some l.0 (sym e ∙ l.2)

  zip-led : (m k : ℕ) → R m k → (texts : List Text) →
      ((s : Text) → Contains texts s → Contains (requests_in p.settings (tree_of p m)) s) →
      AllZip R (filter_map (resolves p m) texts) (filter_map (resolves q k) texts)
  zip-led m k r [] all = tt
  zip-led m k r (s ∷ texts) all =
      by (resolves p m s) (resolves q k s) refl refl
      (zip-led m k r texts (λ t c. all t (later s texts t c)))
    where
      by : (o u : Option ℕ) → resolves p m s ≡ o → resolves q k s ≡ u →
          AllZip R (filter_map (resolves p m) texts) (filter_map (resolves q k) texts) →
          AllZip R (cons_option o (filter_map (resolves p m) texts))
          (cons_option u (filter_map (resolves q k) texts))
      by None None e f ih = ih
      by None (Some d) e f ih = absurd (none-forth m k s r (all s (here s texts)) e d f)
      by (Some c) None e f ih =
          let l = resolves_on p q R w m k c s r (all s (here s texts)) e in
          absurd (none-some l.0 (sym f ∙ l.2))
      by (Some c) (Some d) e f ih =
          let l = resolves_on p q R w m k c s r (all s (here s texts)) e in
          (subst (R c) (same_Some l.0 d (sym l.2 ∙ f)) l.1, ih)

  zip-other : (x y : ℕ) → R x y → (xs ys : List ℕ) → AllZip R xs ys →
      AllZip R (filter (λ z. not (nat_eq x z)) xs) (filter (λ z. not (nat_eq y z)) ys)
  zip-other x y r [] [] z = tt
  zip-other x y r [] (b ∷ ys) z = absurd z
  zip-other x y r (a ∷ xs) [] z = absurd z
  zip-other x y r (a ∷ xs) (b ∷ ys) z =
      by (nat_eq x a) (nat_eq y b) refl refl (zip-other x y r xs ys z.1)
    where
      by : (s t : Bool) → nat_eq x a ≡ s → nat_eq y b ≡ t →
          AllZip R (filter (λ z. not (nat_eq x z)) xs) (filter (λ z. not (nat_eq y z)) ys) →
          AllZip R
          (cond (not s) (a ∷ filter (λ z. not (nat_eq x z)) xs)
          (filter (λ z. not (nat_eq x z)) xs))
          (cond (not t) (b ∷ filter (λ z. not (nat_eq y z)) ys)
          (filter (λ z. not (nat_eq y z)) ys))
      by true true e f ih = ih
      by false false e f ih = (z.0, ih)
      by true false e f ih =
          absurd
          (false≢true
          (sym f
          ∙ eq-eqb y b
          (w.one x y b r (subst (λ c. R c b) (sym (eqb-true x a e)) z.0))))
      by false true e f ih =
          absurd
          (false≢true
          (sym e ∙ eq-eqb x a (w.other y x a r (subst (R a) (sym (eqb-true y b f)) z.0))))

  zip-numbers : (xs ys : List ℕ) → AllZip R xs ys → AllZip R (numbers_once xs) (numbers_once ys)
  zip-numbers [] [] z = tt
  zip-numbers [] (y ∷ ys) z = absurd z
  zip-numbers (x ∷ xs) [] z = absurd z
  zip-numbers (x ∷ xs) (y ∷ ys) z =
      (z.0, zip-other x y z.0 (numbers_once xs) (numbers_once ys) (zip-numbers xs ys z.1))

  -- what they request
  pub requested-zip : (m k : ℕ) → R m k → AllZip R (requested p m) (requested q k)
  requested-zip m k r =
      zip-numbers (filter_map (resolves p m) (requests_in p.settings (tree_of p m)))
      (filter_map (resolves q k) (requests_in q.settings (tree_of q k)))
      (subst
      (λ texts. AllZip R (filter_map (resolves p m) (requests_in p.settings (tree_of p m)))
      (filter_map (resolves q k) texts)) (same_asked p q R w m k r)
      (zip-led m k r (requests_in p.settings (tree_of p m)) (λ s c. c)))

-- ---- sound

-- the list of the program by places
pub places-list : (p q : Program) (ids : List ℕ) → IsList p ids → IsAlike p q (IsModuleAt ids) →
    IsList q (numbers_from zero (length ids))
places-list p q ids is w =
    let its = lists-alike (IsModuleAt ids) w.one w.other (requested p) (requested q)
    (requested-zip p q (IsModuleAt ids) w) is [] [] (q.entry ∷ []) tt tt (w.entry, tt) in
    subst (λ (l : List ℕ). Lists (requested q) [] [] (q.entry ∷ []) l)
    (places-of ids w.one zero ids its.0 its.1
    (λ j m e. let zero_j : j ≡ 0 + j = omega arith in subst (IsModuleAt ids m) zero_j e))
    its.2

module _ (p q : Program) (ids : List ℕ) (known : AreKnown p q ids) where
  back : IsAlike q p (λ a b. IsModuleAt ids b a)
  back = flip known.alike

  -- a place that is reached is that of a module that is
  number-of : (k : ℕ) → IsReached q k → (m : ℕ) × IsModuleAt ids m k × IsReached p m
  number-of k reached = reached_on q p (λ a b. IsModuleAt ids b a) back k reached

  -- no module by its place has a fault
  no-fault : (k stage place : ℕ) (file : FileName) (f : Fault) → IsReached q k →
      ProgramFault q file k stage place f → ⊥
  no-fault k stage place file f reached fault =
      let its = number-of k reached in
      known.faultless its.0 stage place file f its.2
      (fault_on q p (λ a b. IsModuleAt ids b a) back (namespace_meant q p (λ a b. IsModuleAt ids b a) back)
      fault its.0 its.1)

  tree-faultless : (k : ℕ) → IsReached q k → (file : FileName) × IsFaultless file (tree_of q k)
  tree-faultless k reached =
      let its = number-of k reached in
      let file = known.trees its.0 its.2 in
      (file.0, subst (IsFaultless file.0) (known.alike.tree its.0 k its.1) file.1)

  undoubled : (k : ℕ) (kind : ModuleKind) → IsReached q k → HasKind q k kind →
      first_doubled kind (tree_of q k) ≡ None
  undoubled k kind reached is = by (first_doubled kind (tree_of q k)) refl
    where
      by : (o : Option Declaration) → first_doubled kind (tree_of q k) ≡ o →
          first_doubled kind (tree_of q k) ≡ None
      by None e = e
      by (Some d) e =
          let file = tree-faultless k reached in
          absurd (no-fault k 2 d.place file.0 _ reached (doubled_declaration d is e))

  resolved : (k : ℕ) (s : Text) → IsReached q k → Contains (declared_requests (tree_of q k)) s →
      is_external q s ≡ false → (d : ℕ) × (q.leads k s ≡ Some d)
  resolved k s reached asked inside =
      let its = number-of k reached in
      let tree = known.alike.tree its.0 k its.1 in
      let asks =
      declared_requested p.settings (tree_of p its.0) s
      (subst (λ (t : List Item). Contains (declared_requests t) s) (sym tree) asked)
      (same_outside p q (IsModuleAt ids) known.alike s ∙ inside) in
      let leads = known.leads its.0 s its.2 asks in
      let on = known.alike.leads its.0 k leads.0 s its.1 asks leads.1 in
      (on.0, on.2)

  fit : HasFitTrees q
  fit = record {
    each = λ k reached.
        let its = number-of k reached in
        subst (IsFit AModule 0) (known.alike.tree its.0 k its.1) (known.fit.each its.0 its.2);
  }

  -- the program by places is sound
  pub sound : AreTreesSound q (numbers_from zero (length ids))
  sound = record {
    is_list = places-list p q ids known.is_list known.alike;
    checked = λ k stage place file f other reached fault.
        no-fault k stage place file f reached fault;
    faultless = tree-faultless;
    undoubled = undoubled;
    resolved = resolved;
    modules = known.modules;
    fit = fit;
  }
