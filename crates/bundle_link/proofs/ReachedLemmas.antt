-- The list that is found is that of the program, and requests lead to its places.
use Rattle.std.proofs.Common.{◌≡◌, ◌↔◌, ◌⊎◌, inl, inr, ℕ, zero, suc, ◌<◌, Bool, true, false, List, [], ◌∷◌, ◌++◌, Option, Some, None, Contains, length, map, filter_map, cond, refl, sym, ap, ◌∙◌, subst, arith, bytes_eq}
use Rattle.std.specs.Prelude.{option_map, slice_get, string_bytes}
use Rattle.std.specs.List.{AllZip, cons_option}
use Rattle.std.specs.Option.{option_and_then, option_or}
use Rattle.std.specs.declared.alloc.Global.{Global}
use Rattle.std.specs.declared.string.String.{String}
use Rattle.std.specs.declared.vec.Vec.{Vec}
use Rattle.std.proofs.lemmas.List.{length-map}
use Rattle.std.proofs.lemmas.Option.{none-some, same_Some, slice_get-map, slice_get_within, get_or_from_slice_get}
use Rattle.std.proofs.lemmas.Slice.Eq.{bytes_eq-Decides}
use Rattle.std.proofs.lemmas.Slice.Zip.{AllZip-long}
use Rattle.std.specs.BTreeMap.{BTreeMap, get_by_text}
use Rattle.bundle_order_graph.specs.Modules.{deps as noted}
use Rattle.bundle_order_graph.specs.Order.{Lists, IsOrder}
use Rattle.bundle_order_graph.specs.Walks.{Reaches, itself, along}
use Rattle.bundle_order_graph.proofs.ListLemmas.{same_index}
use Rattle.bundle_order_graph.proofs.WalkLemmas.{Reaches-trans}
use Rattle.bundle_rules.specs.Nodes.{Text, numbers_once}
use Rattle.bundle_rules.specs.Judging.{requests_in}
use Rattle.bundle_rules.specs.Program.{Program, tree_of, requested, Requests, IsReached, IsList}
use Rattle.bundle_link_index.specs.Numbered.{HasNoDoubles}
use Rattle.bundle_link.specs.Leads.{Deps, module_place, led, last_told}
use Rattle.bundle_link.proofs.AlikeLemmas.{later, first_or_later}
use Rattle.bundle_link_targets.proofs.CalledLemmas.{numbers-back as once_back, numbers-on as once_on}
use Rattle.bundle_link.proofs.LeadLemmas.{told-led}
use Rattle.bundle_link.proofs.NumberLemmas.{at-place, held, once-same, place-there}
use Rattle.bundle_link_index.proofs.ProgramLemmas.{got, map_back as map_on}
use Rattle.bundle_link.proofs.RequestLemmas.{requested_by}
use Rattle.bundle_link.specs.declared.files.Files.{Files}
use Rattle.bundle_link.specs.Files.{AreNotedOf, IsLed, module_led_to, numbers_of}
use Rattle.bundle_link.specs.Reached.{LeadsBy, deps_at}
use Rattle.bundle_link.proofs.NumbersLemmas.{there_is}
use Rattle.bundle_link.proofs.OrderLemmas.{entry_last, lists_on, reaches_on}
use Rattle.bundle_link_tables.proofs.FaultLemmas.{same_texts as same_text}

-- ---- lists

abbrev pub key : String Global × ℕ → Text
key dep = string_bytes dep.0

zip_right : {A B : Type 0} (R : A → B → Type 0) (xs : List A) (ys : List B) → AllZip R xs ys → (i : ℕ) (y : B) → slice_get ys i ≡ Some y → (x : A) × (slice_get xs i ≡ Some x) × R x y
zip_right R xs [] all i y at = absurd (none-some y at)
zip_right R [] (b ∷ ys) all i y at = absurd all
zip_right R (a ∷ xs) (b ∷ ys) all zero y at = (a, refl, subst (R a) (same_Some b y at) all.0)
zip_right R (a ∷ xs) (b ∷ ys) all (suc i) y at = zip_right R xs ys all.1 i y at

pub some_of_all : {A B : Type 0} (f : A → Option B) (g : A → B) (xs : List A) → ((x : A) → Contains xs x → f x ≡ Some (g x)) → filter_map f xs ≡ map g xs
some_of_all f g [] each = refl
some_of_all f g (x ∷ xs) each = ap (λ o. cons_option o (filter_map f xs)) (each x (0, omega arith, refl)) ∙ ap (λ l. g x ∷ l) (some_of_all f g xs (λ y there. each y (later x xs y there)))

-- the places of numbers that are all there
placed_all : (ids list : List ℕ) → ((n : ℕ) → Contains list n → Contains ids n) → map (slice_get ids) (filter_map (module_place ids) list) ≡ map (λ m. Some m) list
placed_all ids [] inside = refl
placed_all ids (m ∷ list) inside =
    let k = place-there ids m (inside m (0, omega arith, refl)) in
    ap (λ o. map (slice_get ids) (cons_option o (filter_map (module_place ids) list))) k.1
    ∙ ap (λ o. o ∷ map (slice_get ids) (filter_map (module_place ids) list)) (at-place ids m k.0 k.1)
    ∙ ap (λ l. Some m ∷ l) (placed_all ids list (λ n there. inside n (later m list n there)))

-- ---- where texts lead

led_back : (deps : Deps) (s : Text) (c : ℕ) → led deps s ≡ Some c → (dep : String Global × ℕ) × Contains deps dep × (dep.1 ≡ c) × (key dep ≡ s)
led_back [] s c is = absurd (none-some c is)
led_back (dep ∷ rest) s c is = by (led rest s) (bytes_eq (string_bytes dep.0) s) refl is (led_back rest s)
  where
    by : (o : Option ℕ) (b : Bool) → bytes_eq (string_bytes dep.0) s ≡ b → option_or o (cond b (Some dep.1) None) ≡ Some c → ((c : ℕ) → o ≡ Some c → (dep : String Global × ℕ) × Contains rest dep × (dep.1 ≡ c) × (key dep ≡ s)) → (its : String Global × ℕ) × Contains (dep ∷ rest) its × (its.1 ≡ c) × (key its ≡ s)
    by (Some n) b same is ih = let r = ih c is in (r.0, later dep rest r.0 r.1, r.2, r.3)
    by None true same is ih = (dep, (0, omega arith, refl), same_Some dep.1 c is, same_text (string_bytes dep.0) s same)
    by None false same is ih = absurd (none-some c is)

told_back : (tell : ℕ → Option ℕ) (deps : Deps) (s : Text) (k : ℕ) → last_told tell deps s ≡ Some k → (n : ℕ) × (tell n ≡ Some k)
told_back tell [] s k is = absurd (none-some k is)
told_back tell (dep ∷ rest) s k is = by (last_told tell rest s) (bytes_eq (string_bytes dep.0) s) is (told_back tell rest s)
  where
    by : (o : Option ℕ) (b : Bool) → option_or o (cond b (tell dep.1) None) ≡ Some k → ((k : ℕ) → o ≡ Some k → (n : ℕ) × (tell n ≡ Some k)) → (n : ℕ) × (tell n ≡ Some k)
    by (Some n) b is ih = ih k is
    by None true is ih = (dep.1, is)
    by None false is ih = absurd (none-some k is)

-- a text leads as each of these texts does, if it is one of them
led_as : (leads : Text → Option ℕ) (deps : Deps) (s : Text) → ((dep : String Global × ℕ) → Contains deps dep → leads (string_bytes dep.0) ≡ Some dep.1) → Contains (map key deps) s → led deps s ≡ leads s
led_as leads [] s each (i, h, e) = absurd (omega arith)
led_as leads (dep ∷ rest) s each there = by (led rest s) refl (first_or_later (key dep) (map key rest) s there) (λ is. led_as leads rest s (λ d at. each d (later dep rest d at)) is)
  where
    by : (o : Option ℕ) → led rest s ≡ o → (key dep ≡ s) ⊎ Contains (map key rest) s → (Contains (map key rest) s → led rest s ≡ leads s) → option_or o (cond (bytes_eq (string_bytes dep.0) s) (Some dep.1) None) ≡ leads s
    by (Some n) is where_ ih =
        let r = led_back rest s n is in
        sym (ap leads (sym r.3) ∙ each r.0 (later dep rest r.0 r.1) ∙ ap (λ k. Some k) r.2)
    by None is (inl e) ih = ap (λ b. cond b (Some dep.1) None) ((bytes_eq-Decides (string_bytes dep.0) s).1 e) ∙ sym (each dep (0, omega arith, refl)) ∙ ap leads e
    by None is (inr more) ih =
        let r = map_on key rest s more in
        absurd (none-some r.0.1 (sym is ∙ ih more ∙ ap leads (sym r.2) ∙ each r.0 (later dep rest r.0 r.1)))

-- ---- what is noted of the files of a program
module _ (p : Program) (files : Files) (w : AreNotedOf p files) where
  abbrev ids : List ℕ
  ids = files.ids.keys

  its_deps : (m : ℕ) → Contains ids m → (place : ℕ) × (its : Vec (String Global × ℕ) Global) × (slice_get ids place ≡ Some m) × (slice_get files.deps.now place ≡ Some its) × IsLed p ids m its.items
  its_deps m there =
      let k = got ids m there in
      let at : slice_get (numbers_of files.files.now) k.0 ≡ Some m = ap (λ (l : List ℕ). slice_get l k.0) (sym w.ids) ∙ k.1 in
      let within = slice_get_within (numbers_of files.files.now) k.0 m at in
      let long = length-map files.files.now (λ e. e.1) in
      let its = there_is files.deps.now k.0 (omega (arith, within, long, w.files.long)) in
      (k.0, its.0, k.1, its.1, subst (λ (l : List ℕ). IsLed p l m its.0.items) (sym w.ids) (w.files.led k.0 m its.0 at its.1))

  noted_as : (m : ℕ) → Contains ids m → noted files.graph m ≡ requested p m
  noted_as m there =
      let d = its_deps m there in
      w.graph.own d.0 m d.1 (slice_get_within files.deps.now d.0 d.1 d.3) d.2 d.3
      ∙ ap numbers_once (sym (some_of_all (λ (dep : String Global × ℕ). p.leads m (string_bytes dep.0)) module_led_to d.1.items (λ dep at. (d.4.leads dep at).0)))
      ∙ requested_by p m key d.1.items (p.leads m) d.4.asked (λ s. refl)

  closed : (m n : ℕ) → Contains ids m → Contains (noted files.graph m) n → Contains ids n
  closed m n there at =
      let d = its_deps m there in
      let list = subst (λ (l : List ℕ). Contains l n) (w.graph.own d.0 m d.1 (slice_get_within files.deps.now d.0 d.1 d.3) d.2 d.3) at in
      let r = map_on module_led_to d.1.items n (once_back (map module_led_to d.1.items) n list) in
      subst (Contains ids) r.2 (d.4.leads r.0 r.1).1

  module _ (entry : ℕ) (list : List ℕ) (order : IsOrder files.graph entry list) (begins : p.entry ≡ entry) (inside : Contains ids entry) where
    only_entry : (n : ℕ) → Contains (entry ∷ []) n → Contains ids n
    only_entry n there = elim (first_or_later entry [] n there) [ inl e ↦ subst (Contains ids) e inside | inr (i, h, e) ↦ absurd (omega arith) ]

    pub is_list : IsList p list
    is_list = subst (λ (e : ℕ). Lists (requested p) [] [] (e ∷ []) list) (sym begins) (lists_on (noted files.graph) (requested p) (Contains ids) noted_as closed only_entry order.made)

    reached_in : (n : ℕ) → Contains list n → IsReached p n × Contains ids n
    reached_in n there =
        let r = reaches_on (noted files.graph) (requested p) (Contains ids) noted_as closed inside ((order.reached n).0 there) in
        (subst (λ (e : ℕ). Reaches (Requests p) e n) (sym begins) r.0, r.1)

    reached_back : (n : ℕ) → IsReached p n → Contains list n
    reached_back n is =
        let r = reaches_on (requested p) (noted files.graph) (Contains ids) (λ m there. sym (noted_as m there)) (λ m k there at. closed m k there (subst (λ (l : List ℕ). Contains l k) (sym (noted_as m there)) at)) inside
        (subst (λ (e : ℕ). Reaches (Requests p) e n) begins is) in
        (order.reached n).1 r.0

    pub reached : (n : ℕ) → Contains list n ↔ IsReached p n
    reached n = ((λ there. (reached_in n there).0), reached_back n)

    pub once : HasNoDoubles list
    once i j x at_i at_j =
        same_index list order.once i j (slice_get_within list i x at_i) (slice_get_within list j x at_j) (get_or_from_slice_get list i x 0 at_i ∙ sym (get_or_from_slice_get list j x 0 at_j))

    pub places : (found : List ℕ) → found ≡ filter_map (module_place ids) list → map (slice_get ids) found ≡ map (λ m. Some m) list
    places found are = ap (map (slice_get ids)) are ∙ placed_all ids list (λ n there. (reached_in n there).1)

    -- a module that a listed one requests is listed
    requested_listed : (m n : ℕ) → Contains list m → Contains (noted files.graph m) n → Contains list n
    requested_listed m n there at = (order.reached n).1 (Reaches-trans ((order.reached m).0 there) (along at itself))

    pub last : (i : ℕ) → slice_get list i ≡ Some p.entry → suc i ≡ length list
    last i at =
        let e = entry_last (noted files.graph) entry list (entry ∷ []) refl order.made in
        let here : slice_get list (length e.0) ≡ Some p.entry = ap (λ (l : List ℕ). slice_get l (length e.0)) e.1 ∙ at_end e.0 entry ∙ ap (λ n. Some n) (sym begins) in
        ap suc (once i (length e.0) p.entry at here) ∙ sym (longer e.0 entry) ∙ sym (ap length e.1)
      where
        at_end : (xs : List ℕ) (x : ℕ) → slice_get (xs ++ x ∷ []) (length xs) ≡ Some x
        at_end [] x = refl
        at_end (y ∷ xs) x = at_end xs x

        longer : (xs : List ℕ) (x : ℕ) → length (xs ++ x ∷ []) ≡ suc (length xs)
        longer [] x = refl
        longer (y ∷ xs) x = ap suc (longer xs x)

    module _ (found : List ℕ) (leads : List (BTreeMap (String Global) ℕ)) (their : List ℕ) (found_are : found ≡ filter_map (module_place ids) list) (their_are : their ≡ numbers_once list) (all : AllZip (LeadsBy files.deps.now their) found leads) where
      they_are : their ≡ list
      they_are = their_are ∙ once-same list once

      pub long : length leads ≡ length list
      long = AllZip-long (LeadsBy files.deps.now their) found leads all ∙ sym (length-map found (slice_get ids)) ∙ ap length (places found found_are) ∙ length-map list (λ m. Some m)

      pub within : (i d : ℕ) (its : BTreeMap (String Global) ℕ) (s : Text) → slice_get leads i ≡ Some its → get_by_text its s ≡ Some d → d < length list
      within i d its s at is =
          let z = zip_right (LeadsBy files.deps.now their) found leads all i its at in
          let n = told_back (module_place their) (deps_at (slice_get files.deps.now z.0)) s d (sym (z.2 s) ∙ is) in
          subst (λ (l : List ℕ). d < length l) they_are (slice_get_within their d n.0 (at-place their n.0 d n.1))

      pub leads_on : (i m : ℕ) (its : BTreeMap (String Global) ℕ) (s : Text) → slice_get list i ≡ Some m → slice_get leads i ≡ Some its → Contains (requests_in p.settings (tree_of p m)) s → get_by_text its s ≡ option_and_then (module_place list) (p.leads m s)
      leads_on i m its s at_list at_leads asked =
          let z = zip_right (LeadsBy files.deps.now their) found leads all i its at_leads in
          let listed = held list m i at_list in
          let d = its_deps m (reached_in m listed).1 in
          let place_is : slice_get ids z.0 ≡ Some m = same_Some (slice_get ids z.0) (Some m) (sym (ap (option_map (slice_get ids)) z.1) ∙ sym (slice_get-map (slice_get ids) found i) ∙ ap (λ l. slice_get l i) (places found found_are) ∙ slice_get-map (λ n. Some n) list i ∙ ap (option_map (λ n. Some n)) at_list) in
          let numbered : HasNoDoubles ids = subst (λ (l : List ℕ). HasNoDoubles l) (sym w.ids) w.files.once in
          let same : z.0 ≡ d.0 = numbered z.0 d.0 m place_is d.2 in
          let deps_are : deps_at (slice_get files.deps.now z.0) ≡ d.1.items = ap (λ n. deps_at (slice_get files.deps.now n)) same ∙ ap deps_at d.3 in
          let texts : Contains (map key d.1.items) s = subst (λ (l : List Text). Contains l s) (sym d.4.asked) asked in
          z.2 s
          ∙ ap (λ (l : List ℕ). last_told (module_place l) (deps_at (slice_get files.deps.now z.0)) s) they_are
          ∙ ap (λ (l : Deps). last_told (module_place list) l s) deps_are
          ∙ told-led (module_place list) d.1.items s (λ c is.
          let r = led_back d.1.items s c is in
          let noted_there = subst (λ (l : List ℕ). Contains l c) (sym (w.graph.own d.0 m d.1 (slice_get_within files.deps.now d.0 d.1 d.3) d.2 d.3)) (once_on (map module_led_to d.1.items) c (subst (Contains (map module_led_to d.1.items)) r.2 (map_there module_led_to d.1.items r.0 r.1))) in
          place-there list c (requested_listed m c listed noted_there))
          ∙ ap (option_and_then (module_place list)) (led_as (p.leads m) d.1.items s (λ dep at. (d.4.leads dep at).0) texts)
        where
          map_there : {A B : Type 0} (f : A → B) (xs : List A) (x : A) → Contains xs x → Contains (map f xs) (f x)
          map_there f [] x (i, h, e) = absurd (omega arith)
          map_there f (y ∷ xs) x there = elim (first_or_later y xs x there) [
            | inl e ↦ (0, omega arith, ap f e)
            | inr rest ↦ later (f y) (map f xs) (f x) (map_there f xs x rest)
          ]
