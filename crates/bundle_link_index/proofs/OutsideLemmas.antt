-- An external is starred by a module exactly if a path of stars leads to one that stars it itself; a CommonJS module has no exports, so it ends such a path.
-- Where the one name of links is given just the modules are that star an external, over any chain.
use Rattle.std.proofs.Common.{◌≡◌, ℕ, Bool, true, false, ◌||◌, List, [], ◌∷◌, ◌++◌, refl, sym, ap, ◌∙◌, ◌≢◌, get_or, take, subst₂, zero, suc, ◌+◌, ◌<◌, Option, Some, None, length, subst, unwrap_or, if◌then◌else◌, nat_eq, eqb-true, eq-eqb, arith}
use Rattle.std.specs.Prelude.{Contains, IsTrue, flat_map, ◌↔◌, slice_get}
use Rattle.std.specs.List.{list_any}
use Rattle.std.proofs.lemmas.Bool.{false≢true, and_parts}
use Rattle.std.specs.Borrow.{Bor}
use Rattle.std.proofs.lemmas.List.{length-take-le}
use Rattle.std.proofs.lemmas.Option.{none-some}
use Rattle.bundle_syntax.specs.Item as in_item
use Rattle.bundle_syntax.specs.Item.{Item, Head}
use Rattle.bundle_order_graph.proofs.OrderLemmas.{not-true as not_true}
use Rattle.bundle_rules.specs.Nodes.{Text, begins_with}
use Rattle.bundle_rules.specs.Statements.{TopItem, top_items}
use Rattle.bundle_rules.specs.Entries.{ImportEntry, Star, is_module_declaration, exports_by, exports_of_item, exports_of, imports_of, is_script}
use Rattle.bundle_rules.specs.Program.{Program, tree_of, is_external, resolves}
use Rattle.bundle_rules.specs.Linking.{exports, IsCommonJs, HasExternalStar, own, through}
use Rattle.bundle_rules.specs.Faults.{StarsExternal}
use Rattle.bundle_link_index.specs.declared.links.OwnLink.TheVariants.{Gives, Leads}
use Rattle.bundle_link_index.specs.Graph.{NameSpot, Graph, own_of, same_spot, PutsOwn}
use Rattle.bundle_link_index.specs.Given.{Given, itself as at_own, led, starred as star_on}
use Rattle.bundle_link_index.proofs.SearchLemmas.{same_spot-true, same_spot-same}
use Rattle.bundle_link_index.specs.declared.target.LinkModule.{LinkModule}
use Rattle.bundle_link_index.specs.declared.kinds.Kinds.{Kinds}
use Rattle.bundle_link_index.specs.declared.index.Index.{Index}
use Rattle.bundle_link_index.specs.Said.{Lead, Outside, ToModule, ToCommonJs, LeadsIn}
use Rattle.bundle_link_index.specs.Leads.{flagged, lead_found, lead_of}
use Rattle.bundle_link_index.specs.Numbered.{all_starred, starred}
use Rattle.bundle_link_index.specs.Handed.{modules_numbered}
use Rattle.bundle_link_index.specs.Programs.{AreModulesKnown, by_star, lead_in}
use Rattle.bundle_link_index.specs.Outside.{IsIndexOf, IsOutsideGraph, is_outside, outside_own, starring, stars_outside}
use Rattle.bundle_link_index.proofs.ProgramLemmas.{flag_at, flag_past, numbered_long, numbered_more, same_lead, leads_right, star_from, star_to, stars_back, stars_on, any_there, there_of_any}
use Rattle.bundle_link_index.proofs.NumberedLemmas.{starred_more}

-- ---- star

-- m itself stars the external s
pub record StarsOutside (p : Program) (m : ℕ) (s : Text) : Type 0 where
  pub stands : Contains (exports p m) (Star s)
  pub external : IsTrue (is_external p s)

-- ---- a script has no exports
none_by_head : (head : Head) → is_module_declaration head ≡ false → (imports : List ImportEntry) (item : List Item) → exports_by imports head item ≡ []
none_by_head in_item.ExportDecl e imports item = absurd (false≢true (sym e))
none_by_head (in_item.NamedExport meta) e imports item = absurd (false≢true (sym e))
none_by_head in_item.ExportDefaultDecl e imports item = absurd (false≢true (sym e))
none_by_head in_item.ExportDefaultExpr e imports item = absurd (false≢true (sym e))
none_by_head (in_item.ExportAll meta) e imports item = absurd (false≢true (sym e))
none_by_head _ e imports item = refl

none_of_item : (item : List Item) → begins_with is_module_declaration item ≡ false → (imports : List ImportEntry) → exports_of_item imports item ≡ []
none_of_item (in_item.Open field head ∷ rest) e imports = none_by_head head e imports (in_item.Open field head ∷ rest)
none_of_item _ e imports = refl

or_false : (a b : Bool) → (a || b) ≡ false → (a ≡ false) × (b ≡ false)
or_false true b e = absurd (false≢true (sym e))
or_false false b e = (refl, e)

none_of_all : (tops : List TopItem) → list_any (λ top. begins_with is_module_declaration top.items) tops ≡ false → (imports : List ImportEntry) → flat_map (λ top. exports_of_item imports top.items) tops ≡ []
none_of_all [] e imports = refl
none_of_all (top ∷ rest) e imports =
    let both = or_false (begins_with is_module_declaration top.items) (list_any (λ other. begins_with is_module_declaration other.items) rest) e in
    ap (λ l. l ++ flat_map (λ other. exports_of_item imports other.items) rest) (none_of_item top.items both.0 imports) ∙ none_of_all rest both.1 imports

pub script_has_none : (tree : List Item) → IsTrue (is_script tree) → exports_of tree ≡ []
script_has_none tree e = none_of_all (top_items tree) (not_true _ (and_parts _ _ e).0) (imports_of tree)

pub common_js_has_none : (p : Program) (m : ℕ) → IsCommonJs p m → exports p m ≡ []
common_js_has_none p m is = script_has_none (tree_of p m) is.script

-- ---- one module more
flag_last : (flags : List Bool) (b : Bool) (n : ℕ) → length flags ≡ n → flagged (flags ++ b ∷ []) n ≡ b
flag_last [] b zero is = refl
flag_last [] b (suc n) is = absurd (omega arith)
flag_last (x ∷ flags) b zero is = absurd (omega arith)
flag_last (x ∷ flags) b (suc n) is = flag_last flags b n (omega arith)

flag_end : (flags : List Bool) (n : ℕ) → length flags ≡ n → flagged flags n ≡ false
flag_end [] n is = refl
flag_end (x ∷ flags) zero is = absurd (omega arith)
flag_end (x ∷ flags) (suc n) is = flag_end flags n (omega arith)

flag_before : (flags : List Bool) (b : Bool) (n m : ℕ) → length flags ≡ n → m ≢ n → flagged (flags ++ b ∷ []) m ≡ flagged flags m
flag_before [] b n zero is apart = absurd (apart is)
flag_before [] b n (suc m) is apart = refl
flag_before (x ∷ flags) b zero m is apart = absurd (omega arith)
flag_before (x ∷ flags) b (suc n) zero is apart = refl
flag_before (x ∷ flags) b (suc n) (suc m) is apart = flag_before flags b n m (omega arith) (λ e. apart (ap suc e))

-- a module that stars no external
pub outside_passed : (flags : List Bool) (lists : List (List ℕ)) (stars : List ℕ) (n : ℕ) (old new : Graph) → length flags ≡ n → IsOutsideGraph flags lists old → new.lists ≡ old.lists ++ stars ∷ [] → new.entries ≡ old.entries → new.default ≡ old.default → IsOutsideGraph (flags ++ false ∷ []) (lists ++ stars ∷ []) new
outside_passed flags lists stars n old new long w more entries default = record {
  own = λ m. ap (λ l. own_of (record old { entries = l }) (m, 0)) entries ∙ w.own m ∙ ap outside_own (sym (by m (nat_eq m n) refl));
  starred = more ∙ ap (λ l. l ++ stars ∷ []) w.starred;
  default = default ∙ w.default;
}
  where
    by : (m : ℕ) (b : Bool) → nat_eq m n ≡ b → flagged (flags ++ false ∷ []) m ≡ flagged flags m
    by m true is = let same : m ≡ n = eqb-true m n is in ap (flagged (flags ++ false ∷ [])) same ∙ flag_last flags false n long ∙ sym (ap (flagged flags) same ∙ flag_end flags n long)
    by m false is = flag_before flags false n m long (λ e. false≢true (sym is ∙ eq-eqb m n e))

-- and one that does
pub outside_put : (flags : List Bool) (lists : List (List ℕ)) (n : ℕ) (old new : Graph) → length flags ≡ n → IsOutsideGraph (flags ++ false ∷ []) lists old → PutsOwn old (n, 0) (Gives 0) new → new.lists ≡ old.lists → new.default ≡ old.default → IsOutsideGraph (flags ++ true ∷ []) lists new
outside_put flags lists n old new long w puts same_lists default = record {
  own = λ m. puts (m, 0) ∙ by m (nat_eq m n) refl;
  starred = same_lists ∙ w.starred;
  default = default ∙ w.default;
}
  where
    free : own_of old (n, 0) ≡ None
    free = w.own n ∙ ap outside_own (flag_last flags false n long)

    by : (m : ℕ) (b : Bool) → nat_eq m n ≡ b → (if same_spot (n, 0) (m, 0) then Some (unwrap_or (own_of old (n, 0)) (Gives 0)) else own_of old (m, 0)) ≡ outside_own (flagged (flags ++ true ∷ []) m)
    by m true is =
        let same : m ≡ n = eqb-true m n is in
        ap (λ k. if same_spot (n, 0) (k, 0) then Some (unwrap_or (own_of old (n, 0)) (Gives 0)) else own_of old (k, 0)) same
        ∙ ap (λ b. if b then Some (unwrap_or (own_of old (n, 0)) (Gives 0)) else own_of old (n, 0)) (same_spot-same (n, 0))
        ∙ ap (λ o. Some (unwrap_or o (Gives 0))) free
        ∙ sym (ap (λ k. outside_own (flagged (flags ++ true ∷ []) k)) same ∙ ap outside_own (flag_last flags true n long))
    by m false is =
        let apart : m ≢ n = λ e. false≢true (sym is ∙ eq-eqb m n e) in
        ap (λ b. if b then Some (unwrap_or (own_of old (n, 0)) (Gives 0)) else own_of old (m, 0)) (differ m apart)
        ∙ w.own m
        ∙ ap outside_own (flag_before flags false n m long apart ∙ sym (flag_before flags true n m long apart))
      where
        differ : (m : ℕ) → m ≢ n → same_spot (n, 0) (m, 0) ≡ false
        differ m apart = not_true (same_spot (n, 0) (m, 0)) (λ e. apart (sym (ap (λ (s : NameSpot). s.0) (same_spot-true (n, 0) (m, 0) e))))
          where
            not_true : (b : Bool) → (b ≡ true → ⊥) → b ≡ false
            not_true true h = absurd (h refl)
            not_true false h = refl

-- no module yet
pub outside_begins : (g : Graph) → g ≡ record { entries = []; lists = []; default = 1 } → IsOutsideGraph [] [] g
outside_begins g is = record {
  own = λ m. ap (λ (k : Graph). own_of k (m, 0)) is;
  starred = ap (λ (k : Graph). k.lists) is;
  default = ap (λ (k : Graph). k.default) is;
}

-- the next module of a list
pub outside_module : (lead : ℕ → Text → Lead) (modules : List LinkModule) (n : ℕ) (its : LinkModule) (old new : Graph) → its ≡ get_or modules n its → n < length modules
    → IsOutsideGraph (modules_numbered (starring lead) 0 (take n modules)) (all_starred lead 0 (take n modules)) old
    → ((flags : List Bool) (lists : List (List ℕ)) → length flags ≡ n → IsOutsideGraph flags lists old → IsOutsideGraph (flags ++ stars_outside (lead n) its.tables.now.stars.items ∷ []) (lists ++ starred (lead n) its.tables.now.stars.items ∷ []) new)
    → IsOutsideGraph (modules_numbered (starring lead) 0 (take (n + 1) modules)) (all_starred lead 0 (take (n + 1) modules)) new
outside_module lead modules n its old new is inside w step =
    let long : length (modules_numbered (starring lead) 0 (take n modules)) ≡ n = numbered_long (starring lead) 0 (take n modules) ∙ length-take-le n modules (omega arith) in
    subst₂ (λ flags lists. IsOutsideGraph flags lists new) (numbered_more (starring lead) modules n its is inside) (starred_more lead modules n its is inside)
    (step (modules_numbered (starring lead) 0 (take n modules)) (all_starred lead 0 (take n modules)) long w)

-- ---- the program
outside_is : (b : Bool) (flags : List Bool) (o : Option ℕ) → is_outside (if b then Outside else lead_found flags o) ≡ true → b ≡ true
outside_is true flags o e = refl
outside_is false flags None e = absurd (false≢true e)
outside_is false flags (Some d) e = by (flagged flags d) e
  where
    by : (c : Bool) → is_outside (if c then ToCommonJs d else ToModule d) ≡ true → false ≡ true
    by true e = e
    by false e = e

gives_flag : (b : Bool) (v : ℕ) → outside_own b ≡ Some (Gives v) → b ≡ true
gives_flag true v e = refl
gives_flag false v e = absurd (none-some (Gives v) e)

never_leads : (b : Bool) (next : NameSpot) → outside_own b ≡ Some (Leads next) → ⊥
never_leads true next e = cc
never_leads false next e = none-some (Leads next) e

has_star : {p : Program} {d : ℕ} {s : Text} → HasExternalStar p d s → (t : Text) × Contains (exports p d) (Star t)
has_star {s = s} (own stands e) = (s, stands)
has_star (through {r = r} stands leads more) = (r, stands)

module _ (p : Program) (kinds : Kinds) (w : AreModulesKnown p kinds) (g : Graph)
    (o : IsOutsideGraph (modules_numbered (starring (lead_of kinds)) 0 kinds.modules.now) (all_starred (lead_of kinds) 0 kinds.modules.now) g) where
  abbrev outs : List Bool
  outs = modules_numbered (starring (lead_of kinds)) 0 kinds.modules.now

  stars_it : (m : ℕ) → flagged outs m ≡ true → (s : Text) × Contains (exports p m) (Star s) × (is_external p s ≡ true)
  stars_it m e = by (slice_get kinds.modules.now m) refl
    where
      by : (at : Option LinkModule) → slice_get kinds.modules.now m ≡ at → (s : Text) × Contains (exports p m) (Star s) × (is_external p s ≡ true)
      by None none = absurd (false≢true (sym (flag_past (starring (lead_of kinds)) 0 m kinds.modules.now none) ∙ e))
      by (Some its) at =
          let t = w.tables m its at in
          let r = there_of_any (λ (star : Bor Text). is_outside (lead_of kinds m star.now)) its.tables.now.stars.items (sym (flag_at (starring (lead_of kinds)) 0 m m kinds.modules.now its (omega arith) at) ∙ e) in
          let stands = stars_back p m its.tables.now.stars.items r.0 t.stars r.1 in
          (r.0.now, stands, outside_is (is_external p r.0.now) kinds.common_js.items (p.leads m r.0.now) (ap is_outside (sym (same_lead p kinds w m r.0.now (by_star stands))) ∙ r.2))

  it_stars : (m : ℕ) (s : Text) → Contains (exports p m) (Star s) → is_external p s ≡ true → flagged outs m ≡ true
  it_stars m s stands e = by (slice_get kinds.modules.now m) refl
    where
      by : (at : Option LinkModule) → slice_get kinds.modules.now m ≡ at → flagged outs m ≡ true
      by None none = let r = subst (λ l. Contains l (Star s)) (w.others m none) stands in absurd (omega (arith, r.1))
      by (Some its) at =
          let t = w.tables m its at in
          let r = stars_on p m its.tables.now.stars.items s t.stars stands in
          let outside : is_outside (lead_of kinds m s) ≡ true = ap is_outside (same_lead p kinds w m s (by_star stands)) ∙ ap (λ b. is_outside (if b then Outside else lead_found kinds.common_js.items (p.leads m s))) e in
          flag_at (starring (lead_of kinds)) 0 m m kinds.modules.now its (omega arith) at
          ∙ any_there (λ (star : Bor Text). is_outside (lead_of kinds m star.now)) its.tables.now.stars.items r.0 r.1 (ap (λ y. is_outside (lead_of kinds m y)) r.2 ∙ outside)

  given_stars : {at : NameSpot} {v : ℕ} → Given g at v → at.1 ≡ 0 → StarsExternal p at.0
  given_stars {at = at} {v = v} (at_own e) zero_is =
      let here : own_of g (at.0, 0) ≡ Some (Gives v) = ap (λ k. own_of g (at.0, k)) (sym zero_is) ∙ e in
      let r = stars_it at.0 (gives_flag (flagged outs at.0) v (sym (o.own at.0) ∙ here)) in
      (r.0, own r.1 r.2)
  given_stars {at = at} (led {next = next} e more) zero_is =
      let here : own_of g (at.0, 0) ≡ Some (Leads next) = ap (λ k. own_of g (at.0, k)) (sym zero_is) ∙ e in
      absurd (never_leads (flagged outs at.0) next (sym (o.own at.0) ∙ here))
  given_stars {at = at} (star_on {d = d} none other star more) zero_is =
      let r = star_from p kinds w g o.starred at.0 d star in
      let leads = subst (LeadsIn p at.0 r.0) r.2 (leads_right p kinds w at.0 r.0) in
      let rest = given_stars more zero_is in
      (rest.0, through r.1 leads.resolved rest.1)

  leads_to : (m d : ℕ) (s : Text) → resolves p m s ≡ Some d → (IsCommonJs p d → ⊥) → lead_in p kinds.common_js.items m s ≡ ToModule d
  leads_to m d s e es = by (is_external p s) e
    where
      kind : (b : Bool) → flagged kinds.common_js.items d ≡ b → (if b then ToCommonJs d else ToModule d) ≡ ToModule d
      kind true is = absurd (es ((w.common_js d).0 is))
      kind false is = refl

      by : (b : Bool) → (if b then None else p.leads m s) ≡ Some d → (if b then Outside else lead_found kinds.common_js.items (p.leads m s)) ≡ ToModule d
      by true e = absurd (none-some d e)
      by false e = ap (lead_found kinds.common_js.items) e ∙ kind (flagged kinds.common_js.items d) refl

  stars_given : {m : ℕ} {s : Text} → HasExternalStar p m s → Given g (m, 0) 0
  stars_given {m = m} {s = s} (own stands e) = at_own (o.own m ∙ ap outside_own (it_stars m s stands e))
  stars_given {m = m} (through {d = d} {r = r} stands leads more) = by (flagged outs m) refl (stars_given more)
    where
      es : IsCommonJs p d → ⊥
      es common = let star = has_star more in let there = subst (λ l. Contains l (Star star.0)) (common_js_has_none p d common) star.1 in omega (arith, there.1)

      by : (b : Bool) → flagged outs m ≡ b → Given g (d, 0) 0 → Given g (m, 0) 0
      by true is rest = at_own (o.own m ∙ ap outside_own is)
      by false is rest = star_on (o.own m ∙ ap outside_own is) (λ e. omega (arith, e, o.default)) (star_to p kinds w g o.starred m d (r, stands, leads_to m d r leads es)) rest

  pub outside_tells : (m : ℕ) → ((v : ℕ) × Given g (m, 0) v) ↔ StarsExternal p m
  outside_tells m = (λ given. given_stars given.1 refl, λ star. (0, stars_given star.1))

pub tells_outside : (p : Program) (index : Index) (m : ℕ) (answer : Bool) → IsIndexOf p index → IsTrue answer ↔ ((v : ℕ) × Given index.outside (m, 0) v) → IsTrue answer ↔ StarsExternal p m
tells_outside p index m answer is told = (λ e. (is.outside m).0 (told.0 e), λ star. told.1 ((is.outside m).1 star))
