-- What a walk makes of what is fit is fit, and so is what it makes of a statement of a module.
use Rattle.std.proofs.Common.{◌≡◌, ◌⊎◌, inl, inr, ℕ, ◌&&◌, ◌||◌, not, Bool, true, false, List, [], ◌∷◌, ◌++◌, Option, Some, None, append_assoc, append-nil, refl, ap, sym, ◌∙◌, subst, codes, bytes_eq}
use Rattle.std.specs.Prelude.{⊤, if◌then◌else◌}
use Rattle.std.proofs.lemmas.Bool.{false≢true, true≢false, and_from, or_left}
use Rattle.bundle_syntax.specs.declared.piece.Role.{Role}
use Rattle.bundle_syntax.specs.declared.piece.Role.TheVariants as r
use Rattle.bundle_syntax.specs.Item as h
use Rattle.bundle_syntax.specs.Item.{Item, Head}
use Rattle.bundle_tree_places.specs.Edits.{Around, Anywhere, InObject, InSpecifier, node, around_in, is_occurrence, in_its_place, binding, renamed, pattern_in_its_place, shorthand_in_its_place}
use Rattle.bundle_rules.specs.Callable.{is_module_head}
use Rattle.bundle_rules.specs.Nodes.{Text}
use Rattle.bundle_rules.specs.Idents.{Ident}
use Rattle.bundle_rules.specs.Rebuilds.{Change, spells_out, plain_key, key_in_object}
use Rattle.bundle_tree_rebuild.specs.Work.{Work, upcoming, next}
use Rattle.bundle_tree_rebuild.specs.Becomes.{Becomes, begins_with_member, stays, kept_notes, reference, named}
use Rattle.bundle_tree_rebuild.specs.Becomes as b
use Rattle.bundle_scope_names.specs.fit.Sorts.{NodeSort, AnItem, AStmt, ALocal, AFunction, AClass, AnExpr, AnInit, ACallee, AnArrowBody, ALoopHead, AProperty, AKey, APattern, APatternProperty, ABindingIdent, AnIdent, ATarget, ALink, One, Optional, NodeSlot, slot, takes_head, takes_read, takes_expr, takes_reference, takes_pattern_property, takes_name, names_of_sort, slots}
use Rattle.bundle_scope_names.specs.fit.Fits.{AreFit, no_more, over, a_name, a_node, IsFit}
use Rattle.bundle_scope_names.specs.fit.Fits as f
use Rattle.bundle_scope_names.specs.fit.Seen.{each_slot, AreSeen}
use Rattle.bundle_scope_names.proofs.fit.Rows.{is_own, own_head, own_at, steps, own_names, last, one, so, as_stmt as decl_stmt}
use Rattle.bundle_merge_theory.specs.noted.Nodes.{AreNodesInTurn}
use Rattle.bundle_merge_theory.specs.noted.Nodes as n
use Rattle.bundle_merge_theory.specs.noted.Stated.{states_itself, is_default_head}
use Rattle.bundle_merge_theory.specs.walked.Stated.{StatesList}
use Rattle.bundle_merge_theory.specs.walked.Stated as t
use Rattle.bundle_rules.specs.Statements.{moved_to, declaration_head}
use Rattle.bundle_merge_theory.proofs.noted.Shapes.{same_nodes, tail_same, join, one_node, reads_nodes, nodes_in_reads, reads_inside, literal_call, literal_call_nodes}
use Rattle.bundle_merge_theory.proofs.walked.Keeping.{reads_found, call_found}
use Rattle.bundle_rules.specs.Places.{Spot, past, start}
use Rattle.bundle_rules.specs.Declarations.{is_nameless_default}
use Rattle.bundle_scope_names.proofs.fit.Keys.{seen}
use Rattle.bundle_merge_theory.proofs.joined.Declarations.{AreNamed, IsNamed}
use Rattle.bundle_merge_theory.specs.walked.Rewrites.{AreOwn}
use Rattle.bundle_merge_theory.proofs.walked.Rewriting.{own_node}
use Rattle.bundle_merge_theory.proofs.fit.Facts.{are_own, fit_nodes, one_own}
use Rattle.bundle_merge_theory.proofs.fit.Clearing.{ends, starts}
use Rattle.bundle_merge_theory.proofs.own.Slots.{is_fine, are_fine, may_do, fine_do, Front, NodeFront, node_front, name_front, hole_front}

-- whether a sort is that of properties
abbrev pub is_property : ℕ → NodeSort → Bool
is_property number AProperty = true
is_property number _ = false

-- in an object literal there are properties
abbrev pub FitsAround : Around → List NodeSlot → Type 0
FitsAround Anywhere list = ⊤
FitsAround InObject list = each_slot is_property list ≡ true
FitsAround InSpecifier list = ⊥

-- what a walk makes of this in front of others stands in the same fields
pub record Walked (around : Around) (list : List NodeSlot)
    (before made more : List Item) : Type 0 where
  pub left : List NodeSlot
  pub fits : AreFit left more
  pub again : (rest : List Item) → AreFit left rest → AreFit list (made ++ rest)
  pub seated : FitsAround around left
  pub may : ((before ≡ []) × (left ≡ list)) ⊎ (are_fine left ≡ true)

still_seated : (around : Around) (list left : List NodeSlot) →
    ((test : ℕ → NodeSort → Bool) → each_slot test list ≡ true → each_slot test left ≡ true) →
    FitsAround around list → FitsAround around left
still_seated Anywhere list left keeps seated = tt
still_seated InObject list left keeps seated = keeps is_property seated
still_seated InSpecifier list left keeps seated = seated

-- where one node or name stands in the place of another
of_front : {around : Around} {excused : Bool} {list : List NodeSlot} {field : ℕ} {sort : NodeSort}
    (before made more : List Item) → FitsAround around list →
    Front excused list field sort more → IsFit sort field made →
    Walked around list before made more
of_front {around = around} {list = list} before made more seated front it = record {
  left = front.left;
  fits = front.fits;
  again = λ rest fits_it. front.again made it rest fits_it;
  seated = still_seated around list front.left (λ test passes. (front.keeps test passes).1) seated;
  may = inr front.behind;
}

-- Sorts.

-- where a static read may stand and a name too
read_name : (sort : NodeSort) → takes_read sort ≡ true → is_fine sort ≡ true →
    takes_reference sort ≡ true
read_name AnExpr is fine = refl
read_name AnInit is fine = refl
read_name ACallee is fine = refl
read_name AnArrowBody is fine = refl
read_name (APattern names) is fine = refl
read_name ALoopHead is fine = refl
read_name ALink is fine = absurd (false≢true fine)
read_name ATarget is fine = absurd (false≢true fine)
read_name _ is fine = absurd (false≢true is)

expr_name : (sort : NodeSort) → takes_expr sort ≡ true → takes_reference sort ≡ true
expr_name AnExpr is = refl
expr_name AnInit is = refl
expr_name ACallee is = refl
expr_name AnArrowBody is = refl
expr_name (APattern names) is = refl
expr_name ALoopHead is = refl
expr_name _ is = absurd (false≢true is)

-- of properties names are short for properties
property_name : (number : ℕ) (sort : NodeSort) (role : Role) → is_property number sort ≡ true →
    takes_name role sort ≡ true → (sort ≡ AProperty) × (role ≡ r.Reference)
property_name number AProperty r.Reference is takes_it = (refl, refl)
property_name number AProperty r.Binding is takes_it = absurd (false≢true takes_it)
property_name number AProperty r.Word is takes_it = absurd (false≢true takes_it)
property_name number _ role is takes_it = absurd (false≢true is)

-- the fields of a node are fine but for what is assigned to and what begins an optional chain
abbrev is_excused : Head → Bool
is_excused (h.AssignExpr op) = true
is_excused (h.OptChainExpr optional) = true
is_excused head = false

fields_do : (head : Head) (names : Role) → is_module_head head ≡ false →
    is_occurrence names ≡ true → may_do (is_excused head) (slots head names) ≡ true
fields_do h.Module names apart occurs = absurd (false≢true (sym apart))
fields_do (h.ImportDecl meta) names apart occurs = absurd (false≢true (sym apart))
fields_do h.ImportNamedSpecifier names apart occurs = absurd (false≢true (sym apart))
fields_do h.ImportDefaultSpecifier names apart occurs = absurd (false≢true (sym apart))
fields_do h.ImportStarAsSpecifier names apart occurs = absurd (false≢true (sym apart))
fields_do h.ExportDecl names apart occurs = absurd (false≢true (sym apart))
fields_do (h.NamedExport meta) names apart occurs = absurd (false≢true (sym apart))
fields_do h.ExportNamespaceSpecifier names apart occurs = absurd (false≢true (sym apart))
fields_do h.ExportNamedSpecifier names apart occurs = absurd (false≢true (sym apart))
fields_do h.ExportDefaultDecl names apart occurs = absurd (false≢true (sym apart))
fields_do h.ExportDefaultExpr names apart occurs = absurd (false≢true (sym apart))
fields_do (h.ExportAll meta) names apart occurs = absurd (false≢true (sym apart))
fields_do h.BindingIdent names apart occurs = and_from _ _ (or_left _ _ occurs) refl
fields_do h.ArrayPat names apart occurs = and_from _ _ (or_left _ _ occurs) refl
fields_do h.ObjectPat names apart occurs = and_from _ _ (or_left _ _ occurs) refl
fields_do h.RestPat names apart occurs = and_from _ _ (or_left _ _ occurs) refl
fields_do h.AssignPat names apart occurs = and_from _ _ (or_left _ _ occurs) refl
fields_do h.KeyValuePatProp names apart occurs = and_from _ _ refl (and_from _ _ occurs refl)
fields_do h.AssignPatProp names apart occurs = and_from _ _ (or_left _ _ occurs) refl
fields_do (h.NewExpr true) names apart occurs = refl
fields_do (h.NewExpr false) names apart occurs = refl
fields_do _ names apart occurs = refl

inner_do : (head : Head) (sort : NodeSort) → takes_head head sort ≡ true → is_own sort ≡ true →
    may_do (is_excused head) (slots head (names_of_sort sort)) ≡ true
inner_do head sort is own =
    fields_do head (names_of_sort sort) (own_head head sort is own) (own_names sort own)

inner_seated : (head : Head) (names : Role) (inside : List Item) → is_module_head head ≡ false →
    FitsAround (around_in head inside) (slots head names)
inner_seated h.ObjectLit names inside apart = refl
inner_seated h.ImportNamedSpecifier names inside apart = absurd (false≢true (sym apart))
inner_seated h.ExportNamedSpecifier names inside apart = absurd (false≢true (sym apart))
inner_seated _ names inside apart = tt

-- a node that stays and whose first may be kept does not begin with a static read
no_member : (work : Work) (head : Head) (inside : List Item) → stays work head inside ≡ true →
    is_excused head ≡ true → begins_with_member inside ≡ false
no_member work (h.AssignExpr op) inside is excused = not_true (begins_with_member inside) is
  where
    not_true : (b : Bool) → not b ≡ true → b ≡ false
    not_true false e = refl
    not_true true e = absurd (false≢true e)
no_member work (h.OptChainExpr optional) inside is excused =
    not_true (begins_with_member inside) is
  where
    not_true : (b : Bool) → not b ≡ true → b ≡ false
    not_true false e = refl
    not_true true e = absurd (false≢true e)
no_member work _ inside is excused = absurd (false≢true excused)

-- Nodes.

pub becomes_nodes : {around : Around} {work rest : Work} {before made : List Item} →
    Becomes around work before made rest → AreNodesInTurn before
becomes_nodes b.Nothing = n.nothing
becomes_nodes (b.Joined one two) = join (becomes_nodes one) (becomes_nodes two)
becomes_nodes (b.Hole field) = n.hole n.nothing
becomes_nodes (b.Word field x ctxt role plain) = n.name n.nothing
becomes_nodes (b.Name around field x ctxt role occurs) = n.name n.nothing
becomes_nodes (b.Inside field head stays one) = one_node field head (becomes_nodes one)
becomes_nodes (b.Declaration field kind notes one) =
    one_node field (h.VarDecl kind notes) (becomes_nodes one)
becomes_nodes (b.Kept field head first keeps one two) =
    one_node field head
    (join (one_node first h.MemberExpr (becomes_nodes one)) (becomes_nodes two))
becomes_nodes (b.Shorthand field x ctxt role occurs one) =
    one_node field h.AssignPatProp
    (join (one_node 0 h.BindingIdent (n.name n.nothing)) (becomes_nodes one))
becomes_nodes (b.OfReads {work = work} field name inside found) =
    let its = reads_found (upcoming work) inside name found in
    let shape = reads_inside field its.count inside its.reads in
    reads_nodes shape.reads
becomes_nodes (b.OfCall {work = work} field name inside found) =
    let its = call_found (upcoming work) inside name found in
    one_node field h.CallExpr (literal_call_nodes (literal_call inside its.calls))
becomes_nodes (b.OfMeta field kind name found) = one_node field (h.MetaPropExpr kind) n.nothing

-- What stands in the place of a name.

key_fit : (x : Text) (b : Bool) →
    IsFit AKey 0
    (if b then h.Open 0 h.ComputedPropName ∷ h.Open 0 (h.Str x None) ∷ h.Close ∷ h.Close
    ∷ [] else plain_key x)
key_fit x true =
    f.node {inside = h.Open 0 (h.Str x None) ∷ h.Close ∷ []} refl
    (last (f.node {inside = []} refl no_more))
key_fit x false = f.node {inside = []} refl no_more

word_fit : (x : Text) → IsFit AKey 0 (plain_key x)
word_fit x = f.node {inside = []} refl no_more

renamed_fit : (change : Option Change) (field : ℕ) (x : Text) (ctxt : ℕ) (role : Role)
    (sort : NodeSort) → takes_name role sort ≡ true →
    IsFit sort field (renamed change field x ctxt role ∷ [])
renamed_fit None field x ctxt role sort it = f.name it
renamed_fit (Some change) field x ctxt role sort it = f.name it

spelled_fit : (change : Option Change) (field : ℕ) (x : Text) (ctxt : ℕ) →
    IsFit AProperty field
    (node field h.KeyValueProp (key_in_object x ++ renamed change 1 x ctxt r.Reference ∷ []))
spelled_fit change field x ctxt =
    f.node refl
    (one (key_fit x (bytes_eq x (codes "__proto__")))
    (last (renamed_fit change 1 x ctxt r.Reference AnExpr refl)))

name_fit : (around : Around) (change : Option Change) (field : ℕ) (x : Text) (ctxt : ℕ)
    (role : Role) (list : List NodeSlot) (sort : NodeSort) → FitsAround around list →
    ((test : ℕ → NodeSort → Bool) → each_slot test list ≡ true → test field sort ≡ true) →
    takes_name role sort ≡ true →
    IsFit sort field (in_its_place around change field x ctxt role)
name_fit Anywhere change field x ctxt role list sort seated there it =
    renamed_fit change field x ctxt role sort it
name_fit InSpecifier change field x ctxt role list sort seated there it = absurd seated
name_fit InObject change field x ctxt role list sort seated there it = by_test (spells_out change)
  where
    is : (sort ≡ AProperty) × (role ≡ r.Reference)
    is = property_name field sort role (there is_property seated) it

    by_test : (b : Bool) →
        IsFit sort field
        (if b then node field h.KeyValueProp (key_in_object x ++ renamed change 1 x ctxt role ∷ [])
        else renamed change field x ctxt role ∷ [])
    by_test true =
        subst (λ (its : NodeSort). IsFit its field
        (node field h.KeyValueProp (key_in_object x ++ renamed change 1 x ctxt role ∷ [])))
        (sym is.0)
        (subst (λ (its : Role). IsFit AProperty field
        (node field h.KeyValueProp (key_in_object x ++ renamed change 1 x ctxt its ∷ [])))
        (sym is.1)
        (spelled_fit change field x ctxt))
    by_test false = renamed_fit change field x ctxt role sort it

-- a pattern that a shorthand is spelled out with

binding_fit : (change : Option Change) (field : ℕ) (x : Text) (ctxt : ℕ) (role names : Role)
    (sort : NodeSort) → takes_head h.BindingIdent sort ≡ true → names_of_sort sort ≡ names →
    takes_name role (AnIdent names) ≡ true →
    IsFit sort field (binding change field x ctxt role)
binding_fit change field x ctxt role names sort it are name =
    f.node it
    (subst (λ (its : Role). AreFit (slot 0 One (AnIdent its) ∷ [])
    (renamed change 0 x ctxt role ∷ [])) (sym are)
    (last (renamed_fit change 0 x ctxt role (AnIdent names) name)))

default_needed : {first : Item} {default : List Item} →
    AreFit (slot 1 Optional AnExpr ∷ []) (first ∷ default) →
    AreFit (slot 1 One AnExpr ∷ []) (first ∷ default)
default_needed (over e fit) = absurd (no_first fit)
  where
    no_first : {x : Item} {xs : List Item} → AreFit [] (x ∷ xs) → ⊥
    no_first fit = nothing_there (ends fit)
      where
        nothing_there : {x : Item} {xs : List Item} → x ∷ xs ≡ [] → ⊥
        nothing_there e = cc
default_needed (a_name it fit) = a_name it fit
default_needed (a_node it in_it fit) = a_node it in_it fit

pattern_fit : (change : Option Change) (x : Text) (ctxt : ℕ) (role names : Role)
    (default : List Item) → takes_name role (AnIdent names) ≡ true →
    AreFit (slot 1 Optional AnExpr ∷ []) default →
    IsFit (APattern names) 1 (pattern_in_its_place change x ctxt role default)
pattern_fit change x ctxt role names [] name fit =
    binding_fit change 1 x ctxt role names (APattern names) refl refl name
pattern_fit change x ctxt role names (first ∷ more) name fit =
    f.node refl
    (one (binding_fit change 0 x ctxt role names (APattern names) refl refl name)
    (default_needed fit))

short_fit : (change : Option Change) (field : ℕ) (x : Text) (ctxt : ℕ) (role names : Role)
    (default : List Item) → takes_name role (AnIdent names) ≡ true →
    AreFit (slot 1 Optional AnExpr ∷ []) default →
    IsFit (APatternProperty names) field
    (shorthand_in_its_place change field x ctxt role default)
short_fit change field x ctxt role names default name fit = by_test (spells_out change)
  where
    by_test : (b : Bool) →
        IsFit (APatternProperty names) field
        (if b then node field h.KeyValuePatProp
        (plain_key x ++ pattern_in_its_place change x ctxt role default)
        else node field h.AssignPatProp (binding change 0 x ctxt role ++ default))
    by_test true =
        f.node refl (one (word_fit x) (last
        (pattern_fit change x ctxt role names default name fit)))
    by_test false =
        f.node refl
        (one (binding_fit change 0 x ctxt role names (ABindingIdent names) refl refl name) fit)

pattern_property : (sort : NodeSort) → takes_pattern_property sort ≡ true →
    sort ≡ APatternProperty (names_of_sort sort)
pattern_property (APatternProperty names) is = refl
pattern_property _ is = absurd (false≢true is)

-- the name and the default value of a shorthand
record ShortParts (names role : Role) (default : List Item) : Type 0 where
  name_fits : takes_name role (AnIdent names) ≡ true
  default_fit : AreFit (slot 1 Optional AnExpr ∷ []) default

one_name : (names : Role) (x : Text) (ctxt : ℕ) (role : Role) →
    AreFit (slot 0 One (AnIdent names) ∷ []) (h.Ident 0 x ctxt role ∷ []) →
    takes_name role (AnIdent names) ≡ true
one_name names x ctxt role (over e fit) = absurd (true≢false e)
one_name names x ctxt role (a_name it fit) = it

short_parts : (names : Role) (x : Text) (ctxt : ℕ) (role : Role) (default : List Item)
    {items : List Item} →
    AreFit (slot 0 One (ABindingIdent names) ∷ slot 1 Optional AnExpr ∷ []) items →
    items ≡ binding None 0 x ctxt role ++ default → ShortParts names role default
short_parts names x ctxt role default (over e fit) is = absurd (true≢false e)
short_parts names x ctxt role default (a_name it fit) is = absurd cc
short_parts names x ctxt role default
    (a_node {head = hd} {inside = ins} {rest = behind} it in_it fit) is =
    let both =
    same_nodes (fit_nodes in_it) (n.name n.nothing) behind default (tail_same is) in
    record {
      name_fits =
          one_name names x ctxt role
          (subst (λ hd. AreFit (slots hd names) (h.Ident 0 x ctxt role ∷ [])) (ap head_of is)
          (subst (AreFit (slots hd names)) both.0 in_it));
      default_fit = subst (AreFit (slot 1 Optional AnExpr ∷ [])) both.1 fit;
    }
  where
    head_of : List Item → Head
    head_of (h.Open m hd ∷ rest) = hd
    head_of _ = h.Module

-- Walks.

-- a node of this head in whose place stands another
other_node : (around : Around) (excused : Bool) (list : List NodeSlot) (field : ℕ) (head its : Head)
    (inside made more : List Item) → FitsAround around list →
    (it : NodeFront excused list field head inside more) →
    takes_head its it.sort ≡ true → AreFit (slots its (names_of_sort it.sort)) made →
    Walked around list (node field head inside) (node field its made) more
other_node around excused list field head its inside made more seated it takes_it fits =
    of_front (node field head inside) (node field its made) more seated it.front
    (f.node takes_it fits)

all_of : {list : List NodeSlot} {around : Around} {inside made : List Item} →
    Walked around list inside made [] → AreFit list made
all_of {list = list} {made = made} w =
    subst (AreFit list) (append-nil made) (w.again [] w.fits)

both_walked : {around : Around} {list : List NodeSlot}
    {first made_first second made_second more : List Item}
    (one : Walked around list first made_first (second ++ more)) →
    Walked around one.left second made_second more →
    Walked around list (first ++ second) (made_first ++ made_second) more
both_walked {list = list} {first = first} {made_first = made_first} {second = second}
    {made_second = made_second} {more = more} one two = record {
      left = two.left;
      fits = two.fits;
      again =
          λ rest fits_it.
          subst (AreFit list) (sym (append_assoc made_first made_second rest))
          (one.again (made_second ++ rest) (two.again rest fits_it));
      seated = two.seated;
      may = by one.may two.may;
    }
  where
    by : ((first ≡ []) × (one.left ≡ list)) ⊎ (are_fine one.left ≡ true) →
        ((second ≡ []) × (two.left ≡ one.left)) ⊎ (are_fine two.left ≡ true) →
        ((first ++ second ≡ []) × (two.left ≡ list)) ⊎ (are_fine two.left ≡ true)
    by (inl a) (inl b) = inl (ap (λ l. l ++ second) a.0 ∙ b.0, b.1 ∙ a.1)
    by (inr fine) (inl b) = inr (ap are_fine b.1 ∙ fine)
    by a (inr fine) = inr fine

-- the second part of two
second_walked : {around : Around} {list : List NodeSlot} {made_first made_second items : List Item}
    (xs ys more : List Item) (excused : Bool) → may_do excused list ≡ true →
    (a : Walked around list xs made_first (ys ++ more)) → items ≡ (xs ++ ys) ++ more →
    (excused ≡ true → begins_with_member items ≡ false) →
    ((xs ≡ []) × (a.left ≡ list)) ⊎ (are_fine a.left ≡ true) →
    ((left : List NodeSlot) → AreFit left (ys ++ more) → (its : Bool) → may_do its left ≡ true →
    (its ≡ true → begins_with_member (ys ++ more) ≡ false) → FitsAround around left →
    Walked around left ys made_second more) → Walked around a.left ys made_second more
second_walked xs ys more excused ok a e first (inl same) go =
    go a.left a.fits excused (ap (may_do excused) same.1 ∙ ok)
    (λ is. ap begins_with_member (ap (λ l. l ++ (ys ++ more)) (sym same.0) ∙ sym
    (append_assoc xs ys more) ∙ sym e) ∙ first is)
    a.seated
second_walked xs ys more excused ok a e first (inr fine) go =
    go a.left a.fits false (fine_do false a.left fine) (λ is. absurd (false≢true is)) a.seated

-- what a walk makes is fit in the same fields
pub walk : {around : Around} {work rest : Work} {before made : List Item} →
    Becomes around work before made rest → {list : List NodeSlot} {items : List Item} →
    AreFit list items → (more : List Item) → items ≡ before ++ more → (excused : Bool) →
    may_do excused list ≡ true → (excused ≡ true → begins_with_member items ≡ false) →
    FitsAround around list → Walked around list before made more
walk b.Nothing {list = list} fit more e excused ok first seated = record {
  left = list;
  fits = subst (AreFit list) e fit;
  again = λ rest fits_it. fits_it;
  seated = seated;
  may = inl (refl, refl);
}
walk {around = around} (b.Joined {first = xs} {second = ys} one two) {list = list} fit more e
    excused ok
    first seated =
    let a =
    walk one fit (ys ++ more) (e ∙ append_assoc xs ys more) excused ok first seated in
    both_walked a
    (second_walked xs ys more excused ok a e first a.may
    (λ left fits its may none seats. walk two {list = left} fits more refl its may none seats))
walk {around = around} (b.Hole field) {list = list} fit more e excused ok first seated =
    let it = hole_front fit excused ok field more e in
    record {
      left = it.left;
      fits = it.fits;
      again = λ rest fits_it. it.again rest fits_it;
      seated = still_seated around list it.left it.keeps seated;
      may = inr it.behind;
    }
walk (b.Word field x ctxt role plain) fit more e excused ok first seated =
    let it = name_front fit excused ok field x ctxt role more e in
    of_front _ _ more seated it.front (f.name it.takes_it)
walk (b.Name around {work = work} field x ctxt role occurs) {list = list} fit more e excused ok
    first seated =
    let it = name_front fit excused ok field x ctxt role more e in
    of_front _ _ more seated it.front
    (name_fit around (next work x) field x ctxt role list it.sort seated
    (λ test passes. (it.front.keeps test passes).0) it.takes_it)
walk {around = around} (b.Inside {work = work} field head {inside = inside} {made = made} still one)
    {list = list} fit more e excused ok first seated =
    let it =
    node_front fit excused ok field head inside more (becomes_nodes one)
    (e ∙ ap (λ l. h.Open field head ∷ l) (append_assoc inside (h.Close ∷ []) more)) in
    let within =
    walk one it.in_it [] (sym (append-nil inside)) (is_excused head)
    (inner_do head it.sort it.takes_it it.front.own) (no_member work head inside still)
    (inner_seated head (names_of_sort it.sort) inside (own_head head it.sort it.takes_it it.front.own))
    in
    other_node around excused list field head head inside made more seated it it.takes_it
    (all_of within)
walk {around = around} (b.Declaration {work = work} field kind notes {inside = inside} {made = made}
    one) {list = list} fit more e excused ok first seated =
    let it =
    node_front fit excused ok field (h.VarDecl kind notes) inside more (becomes_nodes one)
    (e ∙ ap (λ l. h.Open field (h.VarDecl kind notes) ∷ l)
    (append_assoc inside (h.Close ∷ []) more))
    in
    let within =
    walk one it.in_it [] (sym (append-nil inside)) false
    (inner_do (h.VarDecl kind notes) it.sort it.takes_it it.front.own)
    (λ is. absurd (false≢true is)) tt in
    other_node around excused list field (h.VarDecl kind notes)
    (h.VarDecl kind (kept_notes work.clears_notes notes)) inside made more seated it it.takes_it
    (all_of within)
walk {around = around} (b.Kept field head number {inside = inside} {made = made} {more = others}
    {made_more = made_others} keeps one two) {list = list} fit more e excused ok first seated =
    let all : List Item = node number h.MemberExpr inside ++ others in
    let it =
    node_front fit excused ok field head all more
    (join (one_node number h.MemberExpr (becomes_nodes one)) (becomes_nodes two))
    (e ∙ ap (λ l. h.Open field head ∷ l) (append_assoc all (h.Close ∷ []) more)) in
    let object =
    node_front it.in_it (is_excused head) (inner_do head it.sort it.takes_it it.front.own) number
    h.MemberExpr inside others (becomes_nodes one)
    (ap (λ l. h.Open number h.MemberExpr ∷ l) (append_assoc inside (h.Close ∷ []) others)) in
    let within =
    walk one object.in_it [] (sym (append-nil inside)) false
    (inner_do h.MemberExpr object.sort object.takes_it object.front.own)
    (λ is. absurd (false≢true is)) tt in
    let behind =
    walk two object.front.fits [] (sym (append-nil others)) false
    (fine_do false object.front.left object.front.behind) (λ is. absurd (false≢true is)) tt in
    other_node around excused list field head head all
    (node number h.MemberExpr made ++ made_others)
    more seated it it.takes_it
    (object.front.again (node number h.MemberExpr made) (f.node object.takes_it (all_of within))
    made_others (all_of behind))
walk {around = around} (b.Shorthand {work = work} field x ctxt role {default = default}
    {made = made}
    occurs one) {list = list} fit more e excused ok first seated =
    let all : List Item = binding None 0 x ctxt role ++ default in
    let it =
    node_front fit excused ok field h.AssignPatProp all more
    (join (one_node 0 h.BindingIdent (n.name n.nothing)) (becomes_nodes one))
    (e ∙ ap (λ l. h.Open field h.AssignPatProp ∷ l) (append_assoc all (h.Close ∷ []) more)) in
    let its = short_parts (names_of_sort it.sort) x ctxt role default it.in_it refl in
    let within =
    walk one its.default_fit [] (sym (append-nil default)) false refl
    (λ is. absurd (false≢true is)) tt in
    of_front _ _ more seated it.front
    (subst (λ sort. IsFit sort field (shorthand_in_its_place (next work x) field x ctxt role made))
    (sym (pattern_property it.sort it.takes_it))
    (short_fit (next work x) field x ctxt role (names_of_sort it.sort) made its.name_fits
    (all_of within)))
walk {around = around} (b.OfReads {work = work} field name inside found) {list = list} fit more e
    excused ok
    first seated =
    let its = reads_found (upcoming work) inside name found in
    let shape = reads_inside field its.count inside its.reads in
    let nodes : AreNodesInTurn inside = nodes_in_reads shape.reads field inside refl in
    let it =
    node_front fit excused ok field h.MemberExpr inside more nodes
    (e ∙ ap (λ l. h.Open field h.MemberExpr ∷ l) (append_assoc inside (h.Close ∷ []) more)) in
    of_front (node field h.MemberExpr inside) (reference field name) more seated it.front
    (f.name (read_name it.sort it.takes_it (by it.sort it.front.fine)))
  where
    by : (sort : NodeSort) → (is_fine sort ≡ true) ⊎ (excused ≡ true) → is_fine sort ≡ true
    by sort (inl fine) = fine
    by sort (inr is) = absurd (false≢true (sym (first is) ∙ ap begins_with_member e))
walk {around = around} (b.OfCall {work = work} field name inside found) {list = list} fit more e
    excused ok
    first seated =
    let its = call_found (upcoming work) inside name found in
    let it =
    node_front fit excused ok field h.CallExpr inside more
    (literal_call_nodes (literal_call inside its.calls))
    (e ∙ ap (λ l. h.Open field h.CallExpr ∷ l) (append_assoc inside (h.Close ∷ []) more)) in
    other_node around excused list field h.CallExpr h.CallExpr inside (reference 0 name) more seated
    it it.takes_it (one (f.name refl) (over refl no_more))
walk {around = around} (b.OfMeta {work = work} field kind name found) {list = list} fit more e
    excused ok
    first seated =
    let it =
    node_front fit excused ok field (h.MetaPropExpr kind) [] more n.nothing e in
    of_front (node field (h.MetaPropExpr kind) []) (reference field name) more seated it.front
    (f.name (expr_name it.sort it.takes_it))

-- Statements.

-- one node in a field that holds one
record OneThere (number : ℕ) (sort : NodeSort) (list : List NodeSlot) (field : ℕ) (head : Head)
    (inside rest : List Item) : Type 0 where
  number_is : number ≡ field
  takes_it : takes_head head sort ≡ true
  in_it : AreFit (slots head (names_of_sort sort)) inside
  behind : AreFit list rest

one_there : {number : ℕ} {sort : NodeSort} {list : List NodeSlot} {items : List Item} →
    AreFit (slot number One sort ∷ list) items → (field : ℕ) (head : Head)
    (inside rest : List Item) → AreNodesInTurn inside →
    items ≡ h.Open field head ∷ (inside ++ h.Close ∷ rest) →
    OneThere number sort list field head inside rest
one_there (over e fit) field head inside rest nodes is = absurd (true≢false e)
one_there (a_name it fit) field head inside rest nodes is = absurd cc
one_there {sort = sort} {list = list}
    (a_node {head = hd} {inside = ins} {rest = behind} it in_it fit)
    field head inside rest nodes is =
    let both = same_nodes (fit_nodes in_it) nodes behind rest (tail_same is) in
    let heads : hd ≡ head = ap head_of is in
    record {
      number_is = ap number_of is;
      takes_it = subst (λ hd. takes_head hd sort ≡ true) heads it;
      in_it =
          subst (λ hd. AreFit (slots hd (names_of_sort sort)) inside) heads
          (subst (AreFit (slots hd (names_of_sort sort))) both.0 in_it);
      behind = subst (AreFit list) both.1 fit;
    }
  where
    head_of : List Item → Head
    head_of (h.Open m hd ∷ rest) = hd
    head_of _ = h.Module

    number_of : List Item → ℕ
    number_of (h.Open m hd ∷ rest) = m
    number_of _ = 0

-- what stands alone in a field
alone_there : {number : ℕ} {sort : NodeSort} {items : List Item} →
    AreFit (slot number One sort ∷ []) items → IsFit sort number items
alone_there {number = number} {sort = sort} {items = items} fit =
    let its = starts fit in
    subst (IsFit sort number)
    (sym (its.is ∙ ap (λ l. its.front ++ l) (ends its.fits) ∙ append-nil its.front)) its.it

as_item : (sort : NodeSort) → ((head : Head) → (not (takes_head head sort) || takes_head head AnItem) ≡ true) →
    ((role : Role) → takes_name role sort ≡ false) →
    ((head : Head) → slots head (names_of_sort sort) ≡ slots head r.Reference) → {field : ℕ}
    {items : List Item} → IsFit sort field items → IsFit AnItem field items
as_item sort heads names same (f.name {role = role} it) =
    absurd (false≢true (sym (names role) ∙ it))
as_item sort heads names same (f.node {head = hd} {inside = ins} it in_it) =
    f.node (so (takes_head hd sort) (takes_head hd AnItem) (heads hd) it)
    (subst (λ l. AreFit l ins) (same hd) in_it)

stmt_heads : (head : Head) → (not (takes_head head AStmt) || takes_head head AnItem) ≡ true
stmt_heads h.Module = refl
stmt_heads _ = refl

pub stmt_names : (role : Role) → takes_name role AStmt ≡ false
stmt_names r.Binding = refl
stmt_names _ = refl

itself_heads : (head : Head) →
    (not (states_itself head && takes_head head AnItem) || takes_head head AStmt) ≡ true
itself_heads h.Module = refl
itself_heads _ = refl

pub as_stmt : {number : ℕ} {items : List Item} → IsFit AnItem number items → (field : ℕ)
    (head : Head) (more : List Item) → items ≡ h.Open field head ∷ more →
    states_itself head ≡ true → IsFit AStmt number items
as_stmt (f.name it) field head more is itself = absurd cc
as_stmt (f.node {head = hd} it in_it) field head more is itself =
    f.node (so (states_itself hd && takes_head hd AnItem) (takes_head hd AStmt) (itself_heads hd)
    (and_from (states_itself hd) (takes_head hd AnItem) (ap states_itself (ap head_of is) ∙ itself) it))
    in_it
  where
    head_of : List Item → Head
    head_of (h.Open m hd ∷ rest) = hd
    head_of _ = h.Module

-- an expression in another field
moved_fit : (number field : ℕ) {first : Item} {more : List Item} →
    AreFit (slot number One AnExpr ∷ []) (first ∷ more) →
    AreFit (slot field One AnExpr ∷ []) (moved_to field first ∷ more)
moved_fit number field (over e fit) = absurd (true≢false e)
moved_fit number field (a_name it fit) = a_name it fit
moved_fit number field (a_node it in_it fit) = a_node it in_it fit

moved_nodes : (field : ℕ) (first : Item) (more : List Item) →
    AreNodesInTurn (moved_to field first ∷ more) → AreNodesInTurn (first ∷ more)
moved_nodes field (h.Open old head) more nodes = by nodes refl
  where
    by : {items : List Item} → AreNodesInTurn items → items ≡ h.Open field head ∷ more →
        AreNodesInTurn (h.Open old head ∷ more)
    by n.nothing e = absurd cc
    by (n.name x) e = absurd cc
    by (n.hole x) e = absurd cc
    by (n.node {inside = inside} {rest = rest} x y) e =
        subst (λ l. AreNodesInTurn (h.Open old head ∷ l)) (tail_same e) (n.node x y)
moved_nodes field (h.Ident old x ctxt role) more (n.name nodes) = n.name nodes
moved_nodes field (h.Hole old) more (n.hole nodes) = n.hole nodes
moved_nodes field h.Close more nodes = elim nodes [ ]

value_maybe : {items : List Item} → AreFit (slot 1 One AnExpr ∷ []) items →
    AreFit (slot 1 Optional AnExpr ∷ []) items
value_maybe (over e fit) = absurd (true≢false e)
value_maybe (a_name it fit) = a_name it fit
value_maybe (a_node it in_it fit) = a_node it in_it fit

-- a walk over what is in one field
walked_one : {number : ℕ} {sort : NodeSort} {work rest : Work} {before made : List Item} →
    Becomes Anywhere work before made rest → is_fine sort ≡ true →
    AreFit (slot number One sort ∷ []) before → AreFit (slot number One sort ∷ []) made
walked_one {number = number} {sort = sort} {before = before} one fine fit =
    all_of (walk one fit [] (sym (append-nil before)) false
    (fine_do false (slot number One sort ∷ []) (and_from (is_fine sort) true fine refl))
    (λ is. absurd (false≢true is)) tt)

-- functions and classes

-- the name of one is there
with_its_name : (sort : NodeSort) → ((role : Role) → takes_name role sort ≡ false) → (field : ℕ)
    (x : Text) (ctxt : ℕ) (role : Role) (body : List Item) →
    AreFit (slot 0 Optional ALocal ∷ slot 1 One sort ∷ []) (h.Ident field x ctxt role ∷ body) →
    AreFit (slot 0 One ALocal ∷ slot 1 One sort ∷ []) (h.Ident field x ctxt role ∷ body)
with_its_name sort names field x ctxt role body (over e (over d fit)) = absurd (true≢false d)
with_its_name sort names field x ctxt role body (over e (a_name it fit)) =
    absurd (false≢true (sym (names role) ∙ it))
with_its_name sort names field x ctxt role body (a_name it fit) = a_name it fit

-- or is not
pub local_head : (head : Head) → takes_head head ALocal ≡ false
local_head h.Module = refl
local_head _ = refl

without_name : (sort : NodeSort) (items : List Item) (field : ℕ) (first : Head) (more : List Item) →
    items ≡ h.Open field first ∷ more →
    AreFit (slot 0 Optional ALocal ∷ slot 1 One sort ∷ []) items →
    AreFit (slot 1 One sort ∷ []) items
without_name sort items field first more is (over e fit) = fit
without_name sort items field first more is (a_name it fit) = absurd cc
without_name sort items field first more is (a_node {head = hd} it in_it fit) =
    absurd (false≢true (sym (local_head hd) ∙ it))

pub no_function_names : (role : Role) → takes_name role AFunction ≡ false
no_function_names r.Binding = refl
no_function_names _ = refl

pub no_class_names : (role : Role) → takes_name role AClass ≡ false
no_class_names r.Binding = refl
no_class_names _ = refl

-- as a declaration
own_declaration : (head : Head) → is_default_head head ≡ true → {work rest : Work} (field : ℕ)
    (x : Text) (ctxt : ℕ) (role : Role) (body : List Item) {made : List Item} →
    Becomes Anywhere work (h.Ident field x ctxt role ∷ body) made rest →
    AreFit (slots head r.Reference) (h.Ident field x ctxt role ∷ body) →
    IsFit AStmt 0 (node 0 (declaration_head head) made)
own_declaration h.FnExpr is field x ctxt role body one fit =
    f.node refl
    (all_of (walk one (with_its_name AFunction no_function_names field x ctxt role body fit) []
    (sym (append-nil (h.Ident field x ctxt role ∷ body))) false refl (λ is. absurd (false≢true is))
    tt))
own_declaration h.ClassExpr is field x ctxt role body one fit =
    f.node refl
    (all_of (walk one (with_its_name AClass no_class_names field x ctxt role body fit) []
    (sym (append-nil (h.Ident field x ctxt role ∷ body))) false refl (λ is. absurd (false≢true is))
    tt))
own_declaration _ is field x ctxt role body one fit = absurd (false≢true is)

default_declaration : (head : Head) → is_default_head head ≡ true → {work rest : Work} (field : ℕ)
    (first : Head) (more : List Item) (name : Ident) {made : List Item} →
    Becomes Anywhere work (h.Open field first ∷ more) made rest →
    AreFit (slots head r.Reference) (h.Open field first ∷ more) →
    IsFit AStmt 0 (node 0 (declaration_head head) (named 0 name r.Binding ++ made))
default_declaration h.FnExpr is field first more name one fit =
    f.node refl
    (a_name refl (walked_one one refl (without_name AFunction _ field first more refl fit)))
default_declaration h.ClassExpr is field first more name one fit =
    f.node refl
    (a_name refl (walked_one one refl (without_name AClass _ field first more refl fit)))
default_declaration _ is field first more name one fit = absurd (false≢true is)

-- what a statement of a module becomes is fit, as a statement
pub states_stmt : {work : Work} {default : Ident} {given made : List Item} →
    StatesList work default given made → IsFit AnItem 0 given → IsFit AStmt 0 made
states_stmt (t.StatementStates field head inside itself one) it =
    alone_there (walked_one one refl
    (last (as_stmt it field head (inside ++ h.Close ∷ []) refl itself)))
states_stmt (t.DeclarationStates field inside one) it =
    let there = one_there (last it) field h.ExportDecl inside [] (becomes_nodes one) refl in
    decl_stmt (alone_there (walked_one one refl there.in_it))
states_stmt {default = default} (t.ValueStates field first more {value = value} one) it =
    let there =
    one_there (last it) field h.ExportDefaultExpr (first ∷ more) []
    (moved_nodes 1 first more (becomes_nodes one)) refl in
    let its = walked_one one refl (moved_fit 0 1 there.in_it) in
    f.node refl
    (a_node refl
    (Rattle.bundle_scope_names.proofs.fit.Rows.one
    (binding_fit None 0 default.0 default.1 r.Binding r.Binding (APattern r.Binding) refl refl refl)
    (value_maybe its)) (over refl no_more))
states_stmt (t.OwnStates field inner name_field x ctxt role head body is one) it =
    let nodes = becomes_nodes one in
    let there =
    one_there (last it) field h.ExportDefaultDecl
    (node inner head (h.Ident name_field x ctxt role ∷ body)) []
    (one_node inner head nodes) refl in
    let its =
    one_there there.in_it inner head (h.Ident name_field x ctxt role ∷ body) [] nodes refl in
    own_declaration head is name_field x ctxt role body one its.in_it
states_stmt {default = default} (t.DefaultStates field inner first_field head first more is one)
    it =
    let nodes = becomes_nodes one in
    let there =
    one_there (last it) field h.ExportDefaultDecl
    (node inner head (h.Open first_field first ∷ more)) []
    (one_node inner head nodes) refl in
    let its =
    one_there there.in_it inner head (h.Open first_field first ∷ more) [] nodes refl in
    default_declaration head is first_field first more default one its.in_it

-- and as an item
pub states_fit : {work : Work} {default : Ident} {given made : List Item} →
    StatesList work default given made → IsFit AnItem 0 given → IsFit AnItem 0 made
states_fit states it = as_item AStmt stmt_heads stmt_names (λ head. refl) (states_stmt states it)

-- what a statement is made of is own
pub states_given_own : {work : Work} {default : Ident} {given made : List Item} →
    StatesList work default given made → IsFit AnItem 0 given → AreOwn given
states_given_own (t.StatementStates field head inside itself one) it =
    one_own (as_stmt it field head (inside ++ h.Close ∷ []) refl itself) refl
states_given_own (t.DeclarationStates field inside one) it =
    let there = one_there (last it) field h.ExportDecl inside [] (becomes_nodes one) refl in
    own_node field h.ExportDecl inside refl (are_own there.in_it refl)
states_given_own (t.ValueStates field first more one) it =
    let there =
    one_there (last it) field h.ExportDefaultExpr (first ∷ more) []
    (moved_nodes 1 first more (becomes_nodes one)) refl in
    own_node field h.ExportDefaultExpr (first ∷ more) refl (are_own there.in_it refl)
states_given_own (t.OwnStates field inner name_field x ctxt role head body is one) it =
    let there =
    one_there (last it) field h.ExportDefaultDecl
    (node inner head (h.Ident name_field x ctxt role ∷ body)) []
    (one_node inner head (becomes_nodes one)) refl in
    own_node field h.ExportDefaultDecl (node inner head (h.Ident name_field x ctxt role ∷ body))
    refl (are_own there.in_it refl)
states_given_own (t.DefaultStates field inner first_field head first more is one) it =
    let there =
    one_there (last it) field h.ExportDefaultDecl
    (node inner head (h.Open first_field first ∷ more)) []
    (one_node inner head (becomes_nodes one)) refl in
    own_node field h.ExportDefaultDecl (node inner head (h.Open first_field first ∷ more)) refl
    (are_own there.in_it refl)

-- a statement has no default export without a name
pub nameless_own : (field : ℕ) (head : Head) (more : List Item) → is_module_head head ≡ false →
    is_nameless_default (h.Open field head) more ≡ false
nameless_own field h.ExportDefaultExpr more apart = absurd (false≢true (sym apart))
nameless_own field h.ExportDefaultDecl more apart = absurd (false≢true (sym apart))
nameless_own field _ more apart = refl

pub named_seen : (s : Spot) (items rest : List Item) → AreSeen own_at s items → AreNamed rest →
    AreNamed (items ++ rest)
named_seen s [] rest them named = named
named_seen s (h.Open field head ∷ items) rest them named = (
  nameless_own field head (items ++ rest) (own_head head them.0.0 them.0.1 them.0.2),
  named_seen (past s (h.Open field head)) items rest them.1 named,
)
named_seen s (h.Ident field x ctxt role ∷ items) rest them named =
    (refl, named_seen (past s (h.Ident field x ctxt role)) items rest them.1 named)
named_seen s (h.Hole field ∷ items) rest them named =
    (refl, named_seen (past s (h.Hole field)) items rest them.1 named)
named_seen s (h.Close ∷ items) rest them named =
    (refl, named_seen (past s h.Close) items rest them.1 named)

pub stmt_named : {items : List Item} → IsFit AStmt 0 items → IsNamed items
stmt_named {items = items} it =
    named_seen start items (h.Close ∷ []) (seen own_at steps (last it) start refl) (refl, tt)
