-- A statement of a module in a program in which nothing is wrong, with the top item that states it,
-- and its
-- occurrences.
-- A default without a name: what declares it is written in the statement, it is a name of the top
-- and no import, and it
-- is meant.
use Rattle.std.proofs.Common.{◌≡◌, inl, ℕ, ◌+◌, true, List, [], ◌∷◌, Some, map, refl, sym, ap, ◌∙◌, subst, arith, suc, ◌++◌}
use Rattle.std.specs.Prelude.{Contains, option_map, slice_get}
use Rattle.std.proofs.lemmas.Bool.{false≢true}
use Rattle.std.proofs.lemmas.Option.{same_Some}
use Rattle.bundle_syntax.specs.Item as h
use Rattle.bundle_syntax.specs.Item.{Item, Head}
use Rattle.bundle_syntax.specs.declared.piece.Role.TheVariants as r
use Rattle.bundle_rules.specs.Places.{Occurrence, path_at, occurrence_at, occurrences_from}
use Rattle.bundle_rules.specs.Scopes.{ModuleKind, Es, Top}
use Rattle.bundle_rules.specs.Declarations.{BySymbol, declared, nameless_default}
use Rattle.bundle_rules.specs.Denotes.{denoted_of, denoted_at, Bound}
use Rattle.bundle_rules.specs.Statements.{TopItem, top_items, Element, taken, stated, own_statements, default_name, default_binding, default_constant, default_declaration}
use Rattle.bundle_rules.specs.Program.{Program, tree_of, IsReached}
use Rattle.bundle_rules.specs.Meaning as n
use Rattle.bundle_rules.specs.Meaning.{HasKind, Of, Known, NameMeans, at_top, plain, inner_bindings, own_view, own_sense, says_name, IsMeant, by_statement}
use Rattle.bundle_rules.specs.Bound.{top_names}
use Rattle.bundle_rules.specs.Cleared.{cleared}
use Rattle.bundle_rules.specs.Nodes.{without_last}
use Rattle.bundle_rules.specs.Linking.{Declared, StandsFor, declared as is_declared}
use Rattle.bundle_tree_places.specs.Stated.{is_in_statement}
use Rattle.bundle_link_index.proofs.ProgramLemmas.{got_there as place-there, map_on as map-on}
use Rattle.bundle_scope_names.specs.fit.Sorts.{AModule, AnItem}
use Rattle.bundle_scope_names.specs.fit.Fits.{IsFit, name, node}
use Rattle.bundle_scope_names.proofs.fit.Rows.{last}
use Rattle.bundle_link_index.proofs.AskedLemmas.{none_there as none-there}
use Rattle.bundle_link_targets.specs.Meant.{IsModuleTree}
use Rattle.bundle_link.proofs.StatedElements.{last-off as last_off}
use Rattle.bundle_link.specs.Nested as nested
use Rattle.bundle_merge_theory.specs.noted.Agrees.{IsListing}
use Rattle.bundle_merge_theory.proofs.noted.Agreements.{IsThere, is_there}
use Rattle.bundle_merge_theory.proofs.noted.Theorem.{occurrence_in}
use Rattle.bundle_merge_theory.proofs.noted.Spots.{around_spot}
use Rattle.bundle_merge_theory.proofs.noted.Names.{StandsThere}
use Rattle.bundle_merge_theory.specs.noted.Stated.{declares_default}
use Rattle.bundle_merge_theory.proofs.noted.Inner.{outside-position}
use Rattle.bundle_merge_theory.proofs.noted.Statements.{one_statement}
use Rattle.bundle_merge_theory.proofs.fit.Facts.{program_listing}
use Rattle.bundle_merge_theory.specs.made.Alone.{AreTreesSound}
use Rattle.bundle_merge_theory.specs.made.Told.{denoted_in_module}
use Rattle.bundle_merge_theory.proofs.told.Tops.{nodes, IsPlaced, placed, HasForm, form_of, top_fit, top_stands, IsElement, is_plain_item, stated_element}
use Rattle.bundle_merge_theory.proofs.told.Imported.{Defaults, defaults}
use Rattle.bundle_merge_theory.proofs.told.Kinds.{named_top}

-- ---- setting
pub record IsSet (p : Program) (list : List ℕ) (m : ℕ) (kind : ModuleKind)
    (statement : List Element) (top : TopItem) :
    Type 0 where
  pub sound : AreTreesSound p list
  pub reached : IsReached p m
  pub has_kind : HasKind p m kind
  pub own : Contains (own_statements (tree_of p m)) statement
  pub there : Contains (top_items (tree_of p m)) top
  pub states : stated top.start top.items ≡ statement ∷ []

pub fit_element : {items : List Item} → IsFit AnItem 0 items →
    (start : ℕ) (statement : List Element) →
    stated start items ≡ statement ∷ [] → (k : ℕ) (x : Item) → slice_get items k ≡ Some x →
    is_plain_item x ≡ true →
    IsElement statement (start + k) x
fit_element (name {role = r.Binding} it) start statement e k x at plain = absurd (false≢true it)
fit_element (name {role = r.Reference} it) start statement e k x at plain = absurd (false≢true it)
fit_element (name {role = r.Word} it) start statement e k x at plain = absurd (false≢true it)
fit_element (node {head = head} {inside = inside} it in_it) start statement e k x at plain =
    stated_element start 0 head inside statement e k x at plain

-- of a call
pub call_element : {items : List Item} → IsFit AnItem 0 items →
    (from : ℕ) (statement : List Element) →
    stated from items ≡ statement ∷ [] → (k field : ℕ) → slice_get items k
    ≡ Some (h.Open field h.CallExpr) →
    (f : ℕ) × (other : Head) × Contains statement (taken (from + k) (h.Open f other))
call_element fit from statement e k field at =
    by (fit_element fit from statement e k (h.Open field h.CallExpr) at refl)
  where
    by : IsElement statement (from + k) (h.Open field h.CallExpr) →
        (f : ℕ) × (other : Head) × Contains statement (taken (from + k) (h.Open f other))
    by its =
        let opened = its.opens field h.CallExpr refl in (
          opened.0,
          opened.1,
          subst (λ x. Contains statement (taken (from + k) x)) opened.2
              its.there,
        )

pub fit_begins : {items : List Item} → IsFit AnItem 0 items → (x : Item) →
    slice_get items 0 ≡ Some x →
    (head : Head) × (x ≡ h.Open 0 head)
fit_begins (name {role = r.Binding} it) x at = absurd (false≢true it)
fit_begins (name {role = r.Reference} it) x at = absurd (false≢true it)
fit_begins (name {role = r.Word} it) x at = absurd (false≢true it)
fit_begins (node {head = head} it in_it) x at = (head, sym (same_Some (h.Open 0 head) x at))

module _ (p : Program) (list : List ℕ) (m : ℕ) (kind : ModuleKind) (statement : List Element)
    (top : TopItem)
    (set : IsSet p list m kind statement top) where
  pub fit : IsFit AModule 0 (tree_of p m)
  fit = set.sound.fit.each m set.reached

  pub form : HasForm (tree_of p m)
  form = form_of fit

  pub all_nodes : nested.AreNodes (tree_of p m)
  all_nodes = nodes (last fit)

  pub listing : IsListing (tree_of p m)
  listing = program_listing p set.sound.fit m set.reached

  pub whole : IsModuleTree (tree_of p m)
  whole = set.sound.modules.trees m

  pub here : StandsThere (tree_of p m) (around_spot h.Module 0 0 ∷ []) top
  here = top_stands form top set.there

  pub item_fit : IsFit AnItem 0 top.items
  item_fit = top_fit fit top set.there

  -- an occurrence of the top item
  pub record IsOf (o : Occurrence) : Type 0 where
    pub at : occurrence_at (tree_of p m) o.place ≡ Some o
    pub there : IsThere p m all_nodes o
    pub k : ℕ
    pub x : Item
    pub at_item : slice_get top.items k ≡ Some x
    pub place : o.place ≡ top.start + k
    pub plain : is_plain_item x ≡ true
    pub item : Item
    pub element : Contains statement (taken o.place item)
    pub inside : is_in_statement (path_at (tree_of p m) o.place) ≡ true
    pub denotes : (its : ModuleKind) →
        denoted_at BySymbol its (tree_of p m) o.place
        ≡ Some (denoted_of BySymbol its (declared BySymbol its (tree_of p m)) o)
    pub listed : Contains (map (denoted_in_module p m kind) (occurrences_from here.s top.items))
        (denoted_in_module p m kind o)

  pub of_top : (i : ℕ) (o : Occurrence) → slice_get (occurrences_from here.s top.items) i ≡ Some o →
      IsOf o
  of_top i o e = record {
    at = at;
    there = that.1;
    k = its.k;
    x = its.x;
    at_item = its.at;
    place = place;
    plain = its.plain;
    item = elem.item;
    element = element;
    inside = whole.stated o.place o.place o statement elem.item at (inl refl) set.own element;
    denotes =
        λ k. ap (option_map (denoted_of BySymbol k (declared BySymbol k (tree_of p m)))) at;
    listed =
        map-on (denoted_in_module p m kind) (occurrences_from here.s top.items) o
        (place-there (occurrences_from here.s top.items) i o e);
  }
    where
      found : (place : ℕ) × (occurrence_at (tree_of p m) place ≡ Some o)
      found = occurrence_in top.items here.tail here.s here.at i o e

      that : (o.place ≡ found.0) × IsThere p m all_nodes o
      that = is_there p m all_nodes found.0 o found.1

      at : occurrence_at (tree_of p m) o.place ≡ Some o
      at = ap (occurrence_at (tree_of p m)) that.0 ∙ found.1

      its : IsPlaced here.s top.items o
      its = placed here.s top.items i o e

      place : o.place ≡ top.start + its.k
      place = let q = its.place in let s = here.place in omega (arith, q, s)

      elem : IsElement statement (top.start + its.k) its.x
      elem = fit_element item_fit top.start statement set.states its.k its.x its.at its.plain

      element : Contains statement (taken o.place elem.item)
      element = subst (λ q. Contains statement (taken q elem.item)) (sym place) elem.there

-- ---- it is written
constant_written : (b : ℕ) (e : List Item) → Contains (default_constant b e) default_binding
constant_written b e = (3, omega arith, refl)

declaration_written : (b : ℕ) (field own : ℕ) (head first : Head) (rest : List Item) →
    Contains (default_declaration b (h.Open field head ∷ h.Open own first ∷ rest)) default_binding
declaration_written b field own head first rest = (1, omega arith, refl)

in_constant : (from field : ℕ) (inside : List Item) (statement : List Element) →
    stated from (h.Open field h.ExportDefaultExpr ∷ (inside ++ h.Close ∷ [])) ≡ statement ∷ [] →
    Contains statement default_binding
in_constant from field inside statement e =
    subst (λ l. Contains l default_binding)
    (one_statement (default_constant (suc from) (without_last (inside ++ h.Close ∷ []))) statement
    e)
    (constant_written (suc from) (without_last (inside ++ h.Close ∷ [])))

in_declaration : (from field : ℕ) (inside : List Item) (statement : List Element) →
    stated from (h.Open field h.ExportDefaultDecl ∷ (inside ++ h.Close ∷ [])) ≡ statement ∷ [] →
    declares_default (h.Open field h.ExportDefaultDecl ∷ (inside ++ h.Close ∷ [])) ≡ true →
    Contains statement default_binding
in_declaration from field (h.Open its head ∷ h.Open own first ∷ rest) statement e is =
    subst (λ l. Contains l default_binding)
    (ap (default_declaration (suc from)) (sym (last_off (h.Open its head ∷ h.Open own first ∷ rest)
    h.Close))
    ∙ one_statement (default_declaration (suc from)
    (without_last ((h.Open its head ∷ h.Open own first ∷ rest) ++ h.Close ∷ []))) statement e)
    (declaration_written (suc from) its own head first rest)
in_declaration from field [] statement e is = absurd (false≢true is)
in_declaration from field (h.Ident its x ctxt role ∷ rest) statement e is = absurd (false≢true is)
in_declaration from field (h.Hole its ∷ rest) statement e is = absurd (false≢true is)
in_declaration from field (h.Close ∷ rest) statement e is = absurd (false≢true is)
in_declaration from field (h.Open its head ∷ []) statement e is = absurd (false≢true is)
in_declaration from field (h.Open its head ∷ h.Ident own x ctxt role ∷ rest) statement e is =
    absurd (false≢true is)
in_declaration from field (h.Open its head ∷ h.Hole own ∷ rest) statement e is =
    absurd (false≢true is)
in_declaration from field (h.Open its head ∷ h.Close ∷ rest) statement e is = absurd (false≢true is)

pub default_written : {items : List Item} → IsFit AnItem 0 items →
    (from : ℕ) (statement : List Element) →
    stated from items ≡ statement ∷ [] → declares_default items ≡ true →
    Contains statement default_binding
default_written (name {role = r.Binding} it) from statement e is = absurd (false≢true it)
default_written (name {role = r.Reference} it) from statement e is = absurd (false≢true it)
default_written (name {role = r.Word} it) from statement e is = absurd (false≢true it)
default_written (node {head = head} {inside = inside} it in_it) from statement e is = by head e is
  where
    by : (head : Head) → stated from (h.Open 0 head ∷ (inside ++ h.Close ∷ [])) ≡ statement ∷ [] →
        declares_default (h.Open 0 head ∷ (inside ++ h.Close ∷ [])) ≡ true →
        Contains statement default_binding
    by h.ExportDefaultExpr e is = in_constant from 0 inside statement e
    by h.ExportDefaultDecl e is = in_declaration from 0 inside statement e is
    by _ e is = absurd (false≢true is)

-- ---- contexts and notes do not matter
pub declares_cleared : (items : List Item) → declares_default (cleared items)
    ≡ declares_default items
declares_cleared (h.Open field h.ExportDefaultExpr ∷ rest) = refl
declares_cleared (h.Open field h.ExportDefaultDecl ∷ h.Open its head ∷ h.Open own first ∷ rest) =
    refl
declares_cleared _ = refl

-- ---- it stands at the top
named_default : {tree : List Item} → HasForm tree → (statement : List Element) →
    Contains (own_statements tree) statement →
    Contains statement default_binding → Contains (top_names tree) default_name
named_default {tree = tree} form statement own there =
    subst (λ l. Contains (top_names l) default_name) (sym form.is)
    (named_top (h.Open 0 h.Module ∷ (form.xs ++ h.Close ∷ [])) (nameless_default Es its.place)
    its.found.there refl)
  where
    its : Defaults form.xs form.are
    its =
        defaults form.xs form.are statement (h.Ident 0 default_name 0 r.Binding)
        (subst (λ l. Contains (own_statements l) statement) form.is own) there

module _ (p : Program) (list : List ℕ) (m : ℕ) (kind : ModuleKind) (statement : List Element)
    (top : TopItem)
    (set : IsSet p list m kind statement top) where
  pub default_stands : declares_default top.items ≡ true → StandsFor p m default_name
      (Declared m default_name)
  default_stands is =
      let there = default_written (item_fit p list m kind statement top set) top.start statement
      set.states is in
      is_declared (named_default (form p list m kind statement top set) statement set.own there)
      (set.sound.modules.once.unbound m statement (h.Ident 0 default_name 0 r.Binding) set.own
      there)

  pub default_means : declares_default top.items ≡ true →
      NameMeans (own_sense p m kind) (inner_bindings (own_view p m kind) 0 statement)
      (Bound Top (plain default_name))
      (Known (Of (Declared m default_name)))
  default_means is =
      n.outside (outside-position (own_view p m kind) 0 statement (Bound Top (plain default_name))
      refl)
      (at_top (default_stands is))

  pub default_meant : declares_default top.items ≡ true → IsMeant p (Of (Declared m default_name))
  default_meant is =
      by_statement {e = default_binding} set.reached set.own
      (default_written (item_fit p list m kind statement top set) top.start statement set.states is)
      (λ around_spot by c replaced. none-there around_spot c)
      (says_name set.has_kind refl (at_top (default_stands is)))
