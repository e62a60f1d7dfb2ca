-- A part whose list is bare by its notes is, at its place in a module, the part with names in the place of what is
-- replaced; so is what a top item states.
use Rattle.std.proofs.Common.{◌≡◌, ℕ, zero, suc, ◌+◌, true, false, List, [], ◌∷◌, ◌++◌, length, Option, Some, refl, ap, sym, ◌∙◌, subst, append_assoc, append-nil, arith}
use Rattle.std.specs.Prelude.{Contains, fold}
use Rattle.std.proofs.lemmas.Bool.{false≢true}
use Rattle.std.proofs.lemmas.Option.{none-some, same_Some}
use Rattle.bundle_syntax.specs.declared.kind.MetaPropKind.TheVariants as p
use Rattle.bundle_syntax.specs.declared.piece.Role.{Role}
use Rattle.bundle_syntax.specs.declared.piece.Role.TheVariants as r
use Rattle.bundle_syntax.specs.Item as h
use Rattle.bundle_syntax.specs.Item.{Item, Head}
use Rattle.bundle_rules.specs.Nodes.{Text, field_of, without_last}
use Rattle.bundle_rules.specs.Cleared.{cleared_head}
use Rattle.bundle_rules.specs.Places.{Spot, Occurrence, in_field, past, start, spot_before, occurrences_from}
use Rattle.bundle_rules.specs.Scopes.{ModuleKind}
use Rattle.bundle_rules.specs.Denotes.{Denoted}
use Rattle.bundle_rules.specs.Idents.{Ident}
use Rattle.bundle_syntax.specs.declared.kind.VarDeclKind.TheVariants.{Const}
use Rattle.bundle_rules.specs.Statements.{TopItem, top_items, no_notes, Element, taken, written, taken_from, taken_in_field, moved_to, default_name, default_binding, default_constant, default_declaration, declaration_head, stated}
use Rattle.bundle_rules.specs.Meaning.{Meant, Replacement, ByName, ByCall, own_sense, Replaced}
use Rattle.bundle_rules.specs.Program.{Program, tree_of}
use Rattle.bundle_tree_places.specs.Edits as edits
use Rattle.bundle_tree_rebuild.specs.declared.rewrite.Whole.TheVariants.{Reads, Call}
use Rattle.bundle_link.proofs.NodePaths.{fold-place, spot-in}
use Rattle.bundle_link.proofs.StatedElements.{last-off as last_off}
use Rattle.bundle_scope_names.proofs.Kept.{occurrences-append as occurrences_append}
use Rattle.bundle_merge_theory.specs.noted.Nodes as n
use Rattle.bundle_merge_theory.specs.noted.Nodes.{AreNodesInTurn}
use Rattle.bundle_merge_theory.specs.noted.Marked.{Note}
use Rattle.bundle_merge_theory.specs.noted.Stated.{node_in_field, is_default_head}
use Rattle.bundle_merge_theory.specs.noted.Agrees.{IsSpotAt, IsClear, IsNotable, StandsForReads, StandsForCall, AgreeInTurn, IsListing, ReplacesNotable}
use Rattle.bundle_merge_theory.proofs.noted.Spots.{around_spot, fold-path, at-first, at-past, at-behind, at-as, at-get, at-spot}
use Rattle.bundle_merge_theory.proofs.noted.Shapes.{reads_inside, nodes_in_reads, literal_call, literal_call_nodes, join, one_node, past_nodes, reads_nodes}
use Rattle.bundle_merge_theory.proofs.noted.Names.{StandsThere, top_there, occurrence_here, name_first, at_in_node, name_in_node, name_in_call}
use Rattle.bundle_merge_theory.proofs.noted.Replaces.{clear-field, stays_unreplaced, other_unreplaced, kept_unreplaced}
use Rattle.bundle_merge_theory.proofs.noted.Inner.{taken_append}
use Rattle.bundle_merge_theory.proofs.noted.Bridge.{keeps_notable, property_notable, pattern_notable, agree_in, agree_first, field_moved, field_twice, field_kept}
use Rattle.bundle_merge_theory.proofs.noted.Statements.{nodes_from, itself_stated, one_statement}
use Rattle.bundle_merge_theory.specs.form.Bares.{Bares, Nothing, Joined, Hole, Name, Inside, Kept, Shorthand, OfReads, OfCall, OfMeta, BaresStated, Itself, Declared, Value, Named, Nameless}
use Rattle.bundle_rules.specs.OwnForms.{replacement_items, WithNames, over, replaced, stays}

-- ---- nodes
pub bares_nodes : {meta : Option Meant} {notes rest : List Note} {items bare : List Item} →
    Bares meta notes items bare rest → AreNodesInTurn items
bares_nodes Nothing = n.nothing
bares_nodes (Joined one two) = join (bares_nodes one) (bares_nodes two)
bares_nodes (Hole field) = n.hole n.nothing
bares_nodes (Name field x ctxt role occurs) = n.name n.nothing
bares_nodes (Inside field head stay one) = one_node field head (bares_nodes one)
bares_nodes (Kept field head first keeps one two) =
    one_node field head (join (one_node first h.MemberExpr (bares_nodes one)) (bares_nodes two))
bares_nodes (Shorthand field x ctxt role occurs one) =
    one_node field h.AssignPatProp
    (join (one_node 0 h.BindingIdent (n.name n.nothing)) (bares_nodes one))
bares_nodes (OfReads field count inside reads) =
    let its = reads_inside field count inside reads in reads_nodes its.reads
bares_nodes (OfCall field inside call) =
    one_node field h.CallExpr (literal_call_nodes (literal_call inside call))
bares_nodes (OfMeta field meant is) = one_node field _ n.nothing

-- ---- in front of others
module _ (pr : Program) (m : ℕ) where
  pub names_as : {es fs : List Element} {xs ys : List Item} → es ≡ fs → xs ≡ ys →
      WithNames pr m es xs → WithNames pr m fs ys
  names_as {fs = fs} {xs = xs} ee ex w =
      subst (λ l. WithNames pr m fs l) ex (subst (λ l. WithNames pr m l xs) ee w)

  -- in front of what has names in the place of what is replaced, what stands at a place has these
  pub record Bears (place : ℕ) (items bare : List Item) : Type 0 where
    pub before : (es : List Element) (more : List Item) → WithNames pr m es more →
        WithNames pr m (taken_from place items ++ es) (bare ++ more)

  bears_joined : {place between : ℕ} {first second bare more : List Item} →
      Bears place first bare → between ≡ place + length first → Bears between second more →
      Bears place (first ++ second) (bare ++ more)
  bears_joined {place = place} {between = between} {first = first} {second = second} {bare = bare} {more = more} one e two = record {
    before = λ es xs w.
        names_as
        (ap (λ q. taken_from place first ++ (taken_from q second ++ es)) e
        ∙ sym (taken_append place first second es))
        (sym (append_assoc bare more xs))
        (one.before (taken_from between second ++ es) (more ++ xs) (two.before es xs w));
  }

  bears_node : {place in_it field : ℕ} {head : Head} {inside bare : List Item} →
      ((by : Replacement) → Replaced pr m place by → ⊥) → in_it ≡ suc place → Bears in_it inside bare →
      Bears place (edits.node field head inside) (edits.node field (cleared_head head) bare)
  bears_node {place = place} {in_it = in_it} {field = field} {head = head} {inside = inside} {bare = bare} none e gives = record {
    before = λ es xs w.
        names_as
        (ap (λ l. taken place (h.Open field head) ∷ l)
        (sym (taken_append in_it inside (h.Close ∷ []) es)
        ∙ ap (λ q. taken_from q (inside ++ h.Close ∷ []) ++ es) e))
        (ap (λ l. h.Open field (cleared_head head) ∷ l) (sym (append_assoc bare (h.Close ∷ []) xs)))
        (stays {e = taken place (h.Open field head)} none
        (gives.before (taken (in_it + length inside) h.Close ∷ es) (h.Close ∷ xs)
        (stays {e = taken (in_it + length inside) h.Close} tt w)));
  }

  bears_name : (place field : ℕ) (x : Text) (ctxt : ℕ) (role : Role) →
      Bears place (h.Ident field x ctxt role ∷ []) (h.Ident field x 0 role ∷ [])
  bears_name place field x ctxt role =
      record { before = λ es xs w. stays {e = taken place (h.Ident field x ctxt role)} tt w }

  bears_read : (place field : ℕ) (head : Head) (inside : List Item) (by : Replacement) →
      AreNodesInTurn inside → Replaced pr m place by →
      Bears place (edits.node field head inside)
      (replacement_items field ([], 0) by)
  bears_read place field head inside by nodes is = record {
    before = λ es xs w.
        replaced ([], 0) by is
        (names_as (sym (past_nodes nodes zero (suc place) (h.Close ∷ []) es)) refl w);
  }

module _ (pr : Program) (m : ℕ) (kind : ModuleKind) (inner : List Denoted) (meta : Option Meant)
    (listing : IsListing (tree_of pr m)) (replaces : ReplacesNotable (own_sense pr m kind) meta) where
  abbrev Agree : Spot → List Item → List Occurrence → List Note → Type 0
  Agree s items os notes = AgreeInTurn (own_sense pr m kind) inner (occurrences_from s items ++ os) notes

  abbrev Clear : Spot → Type 0
  Clear s = IsClear (Replaced pr m) s.path

  clear_in : (s : Spot) (field : ℕ) (head : Head) → Clear s →
      ((by : Replacement) → Replaced pr m s.place by → ⊥) → Clear (spot-in s field head)
  clear_in s field head clear none = (none, clear-field (Replaced pr m) field s.path clear)

  clear_behind : {xs : List Item} → AreNodesInTurn xs → (s : Spot) → Clear s → Clear (fold past s xs)
  clear_behind nodes s clear =
      let path = fold-path nodes s in
      subst (IsClear (Replaced pr m)) (sym path.1) (clear-field (Replaced pr m) path.0 s.path clear)

  -- what is so of a part: the notes that are left agree with what follows, and the part has this list
  pub record Borne (s : Spot) (items bare : List Item) (os : List Occurrence) (rest : List Note) : Type 0 where
    pub agrees : AgreeInTurn (own_sense pr m kind) inner os rest
    pub bears : Bears pr m s.place items bare

  pub bear : {notes rest : List Note} {items bare : List Item} → Bares meta notes items bare rest →
      (s : Spot) (tail : List Item) (os : List Occurrence) →
      IsSpotAt (tree_of pr m) s (items ++ tail) → Clear s → Agree s items os notes →
      Borne s items bare os rest
  bear Nothing s tail os at clear agree =
      record { agrees = agree; bears = record { before = λ es xs w. w } }
  bear (Joined {notes = notes} {first = first} {second = second} one two) s tail os at clear agree =
      let at_one : IsSpotAt (tree_of pr m) s (first ++ (second ++ tail)) =
      at-as refl (append_assoc first second tail) at in
      let its_one =
      bear one s (second ++ tail) (occurrences_from (fold past s first) second ++ os) at_one clear
      (agree_first (own_sense pr m kind) inner meta listing replaces s first second os notes agree) in
      let its_two =
      bear two (fold past s first) tail os (at-behind first (second ++ tail) at_one)
      (clear_behind (bares_nodes one) s clear) its_one.agrees in
      record { agrees = its_two.agrees; bears = bears_joined pr m its_one.bears (fold-place s first) its_two.bears }
  bear (Hole field) s tail os at clear agree =
      record { agrees = agree; bears = record { before = λ es xs w. stays {e = taken s.place (h.Hole field)} tt w } }
  bear (Name {note = note} {rest = rest} field x ctxt role occurs) s tail os at clear agree =
      let both =
      subst (λ l. AgreeInTurn (own_sense pr m kind) inner (l ++ os) (note ∷ rest))
      (name_first s field x ctxt role [] occurs) agree in
      record { agrees = both.1; bears = bears_name pr m s.place field x ctxt role }
  bear (Inside {notes = notes} field head {inside = inside} stay one) s tail os at clear agree =
      let nodes = bares_nodes one in
      let none =
      stays_unreplaced (own_sense pr m kind) inner listing meta replaces s field head inside tail os notes nodes at
      clear agree stay in
      let its =
      bear one (spot-in s field head) (h.Close ∷ tail) os (at_in_node field head inside tail at)
      (clear_in s field head clear none)
      (agree_in (own_sense pr m kind) inner meta listing replaces s field head inside os notes agree) in
      record { agrees = its.agrees; bears = bears_node pr m none (omega arith) its.bears }
  bear (Kept {notes = notes} field head first {inside = inside} {more = more} keeps one two) s tail os at clear agree =
      let member : List Item = edits.node first h.MemberExpr inside in
      let behind : List Item = more ++ h.Close ∷ tail in
      let none =
      other_unreplaced (own_sense pr m kind) inner listing meta replaces s field head
      (((member ++ more) ++ h.Close ∷ []) ++ tail) at clear (λ ins by it. keeps_notable first it keeps) in
      let s1 : Spot = spot-in s field head in
      let at1 : IsSpotAt (tree_of pr m) s1 (member ++ behind) =
      at-as refl (append_assoc member more (h.Close ∷ tail)) (at_in_node field head (member ++ more) tail at) in
      let clear1 : Clear s1 = clear_in s field head clear none in
      let none1 =
      kept_unreplaced (own_sense pr m kind) inner listing meta replaces s1 first
      ((inside ++ h.Close ∷ []) ++ behind) head s.place 0 (in_field field s.path) at1 clear1 refl keeps
      (omega arith) in
      let after : List Occurrence = occurrences_from (fold past s1 member) more ++ os in
      let agree1 : Agree s1 member after notes =
      agree_first (own_sense pr m kind) inner meta listing replaces s1 member more os notes
      (agree_in (own_sense pr m kind) inner meta listing replaces s field head (member ++ more) os notes agree) in
      let its_one =
      bear one (spot-in s1 first h.MemberExpr) (h.Close ∷ behind) after
      (at_in_node first h.MemberExpr inside behind at1) (clear_in s1 first h.MemberExpr clear1 none1)
      (agree_in (own_sense pr m kind) inner meta listing replaces s1 first h.MemberExpr inside after notes agree1) in
      let nodes = bares_nodes one in
      let its_two =
      bear two (fold past s1 member) (h.Close ∷ tail) os (at-behind member behind at1)
      (clear_behind (one_node first h.MemberExpr nodes) s1 clear1) its_one.agrees in
      let member_bears = bears_node pr m {field = first} none1 (omega arith) its_one.bears in
      record {
        agrees = its_two.agrees;
        bears =
            bears_node pr m none (omega arith)
            (bears_joined pr m member_bears (fold-place s1 member) its_two.bears);
      }
  bear
      (Shorthand {note = note} {notes = notes} {rest = rest} field x ctxt role {default = default} occurs one)
      s tail os at clear agree =
      let apart : (default ++ h.Close ∷ []) ++ tail ≡ default ++ h.Close ∷ tail =
      append_assoc default (h.Close ∷ []) tail in
      let front : List Item → List Item =
      λ l.
      h.Open field h.AssignPatProp ∷ h.Open 0 h.BindingIdent ∷ h.Ident 0 x ctxt role ∷ h.Close
      ∷ l in
      let at0 : IsSpotAt (tree_of pr m) s (front (default ++ h.Close ∷ tail)) =
      at-as refl (ap front apart) at in
      let none =
      other_unreplaced (own_sense pr m kind) inner listing meta replaces s field h.AssignPatProp
      (h.Open 0 h.BindingIdent ∷ h.Ident 0 x ctxt role ∷ h.Close ∷ (default ++ h.Close ∷ tail))
      at0 clear (λ ins by it. property_notable it) in
      let s1 : Spot = spot-in s field h.AssignPatProp in
      let clear1 : Clear s1 = clear_in s field h.AssignPatProp clear none in
      let at1 =
      at-past (h.Open field h.AssignPatProp)
      (h.Open 0 h.BindingIdent ∷ h.Ident 0 x ctxt role ∷ h.Close ∷ (default ++ h.Close ∷ tail))
      at0 in
      let none1 =
      other_unreplaced (own_sense pr m kind) inner listing meta replaces s1 0 h.BindingIdent
      (h.Ident 0 x ctxt role ∷ h.Close ∷ (default ++ h.Close ∷ tail)) at1 clear1
      (λ ins by it. pattern_notable it) in
      let s2 : Spot = spot-in s1 0 h.BindingIdent in
      let s4 : Spot = past (past s2 (h.Ident 0 x ctxt role)) h.Close in
      let at4 =
      at-past h.Close (default ++ h.Close ∷ tail)
      (at-past (h.Ident 0 x ctxt role) (h.Close ∷ (default ++ h.Close ∷ tail))
      (at-past (h.Open 0 h.BindingIdent)
      (h.Ident 0 x ctxt role ∷ h.Close ∷ (default ++ h.Close ∷ tail)) at1)) in
      let its_name : Occurrence = occurrence_here s2 0 x ctxt role in
      let both =
      subst (λ l. AgreeInTurn (own_sense pr m kind) inner (l ++ os) (note ∷ notes))
      (name_first s2 0 x ctxt role (h.Close ∷ (default ++ h.Close ∷ [])) occurs
      ∙ ap (λ l. its_name ∷ l)
      (occurrences_append s4 default (h.Close ∷ [])
      ∙ append-nil (occurrences_from s4 default)))
      agree in
      let its = bear one s4 (h.Close ∷ tail) os at4 clear1 both.1 in
      let name_bears : Bears pr m (s1.place + 1) (h.Ident 0 x ctxt role ∷ []) (h.Ident 0 x 0 role ∷ []) =
      bears_name pr m (s1.place + 1) 0 x ctxt role in
      record {
        agrees = its.agrees;
        bears =
            bears_node pr m none (omega arith)
            (bears_joined pr m {between = s4.place} (bears_node pr m {field = 0} {head = h.BindingIdent} none1 (omega arith) name_bears)
            (omega arith) its.bears);
      }
  bear (OfReads {meant = meant} {rest = rest} field count inside are) s tail os at clear agree =
      let found = reads_inside field count inside are in
      let its = name_in_node found.reads refl field inside refl s in
      let both =
      subst
      (λ l.
      AgreeInTurn (own_sense pr m kind) inner (l ++ os) (record { meant = meant; whole = Reads count } ∷ rest))
      its.is agree in
      let reads : StandsForReads (own_sense pr m kind) its.o meant count = both.0 in
      let reads_far = reads.far in
      let far = its.far in
      let here : reads.begins ≡ s.place = omega (arith, far, reads_far) in
      let there = reads.replaced in
      record {
        agrees = both.1;
        bears =
            bears_read pr m s.place field h.MemberExpr inside (ByName reads.label)
            (nodes_in_reads found.reads field inside refl)
            (subst (λ q. Replaced pr m q (ByName reads.label)) here there.its);
      }
  bear (OfCall {meant = meant} {rest = rest} field inside are) s tail os at clear agree =
      let found = literal_call inside are in
      let its = name_in_call field inside found refl s in
      let both =
      subst
      (λ l. AgreeInTurn (own_sense pr m kind) inner (l ++ os) (record { meant = meant; whole = Call } ∷ rest))
      its.is agree in
      let call : StandsForCall (own_sense pr m kind) its.o meant = both.0 in
      let call_far = call.far in
      let far = its.far in
      let here : call.begins ≡ s.place = omega (arith, far, call_far) in
      let there = call.replaced in
      record {
        agrees = both.1;
        bears =
            bears_read pr m s.place field h.CallExpr inside (ByCall call.label) (literal_call_nodes found)
            (subst (λ q. Replaced pr m q (ByCall call.label)) here there.its);
      }
  bear (OfMeta field meant is) s tail os at clear agree =
      let found = replaces.metas s.place field meant (at-get at s.place 0 (omega arith)) is in
      record {
        agrees = agree;
        bears = bears_read pr m s.place field (h.MetaPropExpr p.ImportMeta) [] (ByName found.0) n.nothing found.2;
      }

-- ---- the first element in another field
module _ (pr : Program) (m : ℕ) where
  replaced_to : (field old : ℕ) (name : Ident) (by : Replacement) (more : List Item) →
      replacement_items field name by ++ more ≡ node_in_field field (replacement_items old name by ++ more)
  replaced_to field old name (ByName l) more = refl
  replaced_to field old name (ByCall l) more = refl

  first_moved : (place field : ℕ) (x : Item) (f : ℕ) → field_of x ≡ Some f → (es : List Element) (xs : List Item) →
      WithNames pr m (taken place x ∷ es) xs →
      WithNames pr m (taken place (moved_to field x) ∷ es) (node_in_field field xs)
  first_moved place field (h.Open old head) f is es xs (replaced {items = items} name by it w) =
      names_as pr m refl (replaced_to field old name by items) (replaced name by it w)
  first_moved place field (h.Open old head) f is es xs (stays none w) =
      stays {e = taken place (h.Open field head)} none w
  first_moved place field (h.Ident old x ctxt role) f is es xs (stays none w) =
      stays {e = taken place (h.Ident field x ctxt role)} tt w
  first_moved place field (h.Hole old) f is es xs (stays none w) = stays {e = taken place (h.Hole field)} tt w
  first_moved place field h.Close f is es xs w = absurd (none-some f is)

-- a bare list in another field
moved_nothing : {meta : Option Meant} {notes rest : List Note} {items bare : List Item} →
    Bares meta notes items bare rest → items ≡ [] → (bare ≡ []) × (notes ≡ rest)
moved_nothing Nothing e = (refl, refl)
moved_nothing (Joined {first = first} {second = second} {bare = bare} {more = more} one two) e =
    both first e (moved_nothing one) (moved_nothing two)
  where
    both : {A B C : List Note} (first : List Item) → first ++ second ≡ [] →
        (first ≡ [] → (bare ≡ []) × (A ≡ B)) → (second ≡ [] → (more ≡ []) × (B ≡ C)) →
        (bare ++ more ≡ []) × (A ≡ C)
    both [] e a b = let one = a refl in let two = b e in (ap (λ l. l ++ more) one.0 ∙ two.0, one.1 ∙ two.1)
    both (x ∷ xs) e a b = cc
moved_nothing (Hole field) e = cc
moved_nothing (Name field x ctxt role occurs) e = cc
moved_nothing (Inside field head stay one) e = cc
moved_nothing (Kept field head first keeps one two) e = cc
moved_nothing (Shorthand field x ctxt role occurs one) e = cc
moved_nothing (OfReads field count inside are) e = cc
moved_nothing (OfCall field inside are) e = cc
moved_nothing (OfMeta field meant is) e = cc

-- what is bare begins as what it is made of: with nothing, or in the same field
data BeginAlike : List Item → List Item → Type 0 where
  both_empty : BeginAlike [] []
  both_in : {x y : Item} {xs ys : List Item} (field : ℕ) → field_of x ≡ Some field → field_of y ≡ Some field →
      BeginAlike (x ∷ xs) (y ∷ ys)

alike_joined : {first second bare more : List Item} → BeginAlike first bare → BeginAlike second more →
    BeginAlike (first ++ second) (bare ++ more)
alike_joined both_empty two = two
alike_joined (both_in field is its) two = both_in field is its

alike : {meta : Option Meant} {notes rest : List Note} {items bare : List Item} →
    Bares meta notes items bare rest → BeginAlike items bare
alike Nothing = both_empty
alike (Joined one two) = alike_joined (alike one) (alike two)
alike (Hole field) = both_in field refl refl
alike (Name field x ctxt role occurs) = both_in field refl refl
alike (Inside field head stay one) = both_in field refl refl
alike (Kept field head first keeps one two) = both_in field refl refl
alike (Shorthand field x ctxt role occurs one) = both_in field refl refl
alike (OfReads field count inside are) = both_in field refl refl
alike (OfCall field inside are) = both_in field refl refl
alike (OfMeta field meant is) = both_in field refl refl

moved_joined : {meta : Option Meant} {notes between rest : List Note} {first second bare more : List Item} →
    BeginAlike first bare → (field : ℕ) → Bares meta notes first bare between →
    Bares meta notes (node_in_field field first) (node_in_field field bare) between →
    Bares meta between second more rest →
    Bares meta between (node_in_field field second) (node_in_field field more) rest →
    Bares meta notes (node_in_field field (first ++ second)) (node_in_field field (bare ++ more)) rest
moved_joined {meta = meta} {rest = rest} {second = second} {more = more} both_empty field one moved_one two moved_two =
    subst (λ l. Bares meta l (node_in_field field second) (node_in_field field more) rest)
    (sym (moved_nothing one refl).1) moved_two
moved_joined (both_in f is its) field one moved_one two moved_two = Joined moved_one two

moved : {meta : Option Meant} {notes rest : List Note} {items bare : List Item} →
    Bares meta notes items bare rest → (field : ℕ) →
    Bares meta notes (node_in_field field items) (node_in_field field bare) rest
moved Nothing field = Nothing
moved (Joined one two) field = moved_joined (alike one) field one (moved one field) two (moved two field)
moved (Hole old) field = Hole field
moved (Name old x ctxt role occurs) field = Name field x ctxt role occurs
moved (Inside old head stay one) field = Inside field head stay one
moved (Kept old head first keeps one two) field = Kept field head first keeps one two
moved (Shorthand old x ctxt role occurs one) field = Shorthand field x ctxt role occurs one
moved (OfReads old count inside are) field = OfReads field count inside are
moved (OfCall old inside are) field = OfCall field inside are
moved (OfMeta old meant is) field = OfMeta field meant is

-- there and back
record FromOtherField (meta : Option Meant) (field : ℕ) (notes : List Note) (items bare : List Item)
    (rest : List Note) : Type 0 where
  there : List Item
  bares : Bares meta notes items there rest
  back : node_in_field field there ≡ bare

from_alike : {meta : Option Meant} {notes rest : List Note} (field : ℕ) (x : Item) (items : List Item)
    {bare : List Item} → BeginAlike (node_in_field field (x ∷ items)) bare → (old : ℕ) →
    field_of x ≡ Some old → Bares meta notes (node_in_field field (x ∷ items)) bare rest →
    FromOtherField meta field notes (x ∷ items) bare rest
from_alike {meta = meta} {notes = notes} {rest = rest} field x items (both_in {y = y} {ys = ys} f is its) old e bares = record {
  there = moved_to old y ∷ ys;
  bares =
      subst (λ z. Bares meta notes (z ∷ items) (moved_to old y ∷ ys) rest)
      (field_twice old field x ∙ field_kept old x e) (moved bares old);
  back = ap (λ z. z ∷ ys) (field_twice field old y ∙ field_kept field y (its ∙ ap Some same));
}
  where
    same : f ≡ field
    same = same_Some f field (sym is ∙ field_moved field x old e)

from_other_field : {meta : Option Meant} {notes rest : List Note} (field : ℕ) {items bare : List Item} →
    AreNodesInTurn items → Bares meta notes (node_in_field field items) bare rest →
    FromOtherField meta field notes items bare rest
from_other_field {meta = meta} {notes = notes} {rest = rest} field {bare = bare} n.nothing bares =
    let none = moved_nothing bares refl in
    record {
      there = [];
      bares = subst (λ l. Bares meta l [] [] rest) (sym none.1) Nothing;
      back = sym none.0;
    }
from_other_field field (n.name {field = old} {ctxt = ctxt} {sym = x} {role = role} {rest = items} nodes) bares =
    from_alike field (h.Ident old x ctxt role) items (alike bares) old refl bares
from_other_field field (n.hole {field = old} {rest = items} nodes) bares =
    from_alike field (h.Hole old) items (alike bares) old refl bares
from_other_field field (n.node {field = old} {head = head} {inside = inside} {rest = items} nodes more) bares =
    from_alike field (h.Open old head) (inside ++ h.Close ∷ items) (alike bares) old refl bares

-- ---- what a top item states
default_notable : {meta : Option Meant} (head : Head) → is_default_head head ≡ true →
    (inside : List Item) (by : Replacement) → IsNotable meta head inside by → ⊥
default_notable h.FnExpr is inside by it = elim it [ ]
default_notable h.ClassExpr is inside by it = elim it [ ]
default_notable _ is inside by it = absurd (false≢true is)

declared_head : (head : Head) → is_default_head head ≡ true →
    cleared_head (declaration_head head) ≡ declaration_head head
declared_head h.FnExpr is = refl
declared_head h.ClassExpr is = refl
declared_head _ is = absurd (false≢true is)

module _ (pr : Program) (m : ℕ) (kind : ModuleKind) (inner : List Denoted) (meta : Option Meant)
    (listing : IsListing (tree_of pr m)) (replaces : ReplacesNotable (own_sense pr m kind) meta) where
  -- nodes in another field
  value_named : (place : ℕ) {value there : List Item} → BeginAlike value there →
      (es : List Element) (xs : List Item) → WithNames pr m (taken_from place value ++ es) (there ++ xs) →
      WithNames pr m es xs →
      WithNames pr m (taken_in_field 1 place value ++ es) (node_in_field 1 there ++ xs)
  value_named place both_empty es xs w end = end
  value_named place (both_in {x = x} {y = y} {xs = value} {ys = there} f is its) es xs w end =
      first_moved pr m place 1 x f is (taken_from (suc place) value ++ es) (y ∷ (there ++ xs)) w

  -- a declaration: its beginning, what stands in it, its end
  declared_named : (place its : ℕ) (head : Head) (body bare names : List Item) (between : List Element) →
      is_default_head head ≡ true → ((by : Replacement) → Replaced pr m place by → ⊥) →
      Bears pr m (place + 1) body bare →
      ((es : List Element) (xs : List Item) → WithNames pr m es xs → WithNames pr m (between ++ es) (names ++ xs)) →
      WithNames pr m
      (taken place (h.Open 0 (declaration_head head)) ∷ (between ++ taken_from (suc place) (body ++ h.Close ∷ [])))
      (edits.node 0 (declaration_head head) (names ++ bare))
  declared_named place its head body bare names between is none bears adds =
      let far : place + 1 ≡ suc place = omega arith in
      let body_named =
      bears.before (taken (place + 1 + length body) h.Close ∷ []) (h.Close ∷ [])
      (stays {e = taken (place + 1 + length body) h.Close} tt over) in
      let as_items : taken_from (place + 1) body ++ (taken (place + 1 + length body) h.Close ∷ []) ≡ taken_from (suc place) (body ++ h.Close ∷ []) =
      sym (taken_append (place + 1) body (h.Close ∷ []) [])
      ∙ append-nil (taken_from (place + 1) (body ++ h.Close ∷ []))
      ∙ ap (λ q. taken_from q (body ++ h.Close ∷ [])) far in
      names_as pr m refl
      (ap (λ head. h.Open 0 head ∷ (names ++ (bare ++ h.Close ∷ []))) (declared_head head is)
      ∙ ap (λ l. h.Open 0 (declaration_head head) ∷ l) (sym (append_assoc names bare (h.Close ∷ []))))
      (stays {e = taken place (h.Open 0 (declaration_head head))} none
      (adds (taken_from (suc place) (body ++ h.Close ∷ [])) (bare ++ h.Close ∷ [])
      (names_as pr m as_items refl body_named)))

  pub stated_named : {notes rest : List Note} {items bare : List Item} →
      BaresStated meta notes items bare rest → (s : Spot) (tail : List Item) (os : List Occurrence) →
      IsSpotAt (tree_of pr m) s (items ++ tail) → IsClear (Replaced pr m) s.path →
      AgreeInTurn (own_sense pr m kind) inner (occurrences_from s items ++ os) notes →
      (statement : List Element) → stated s.place items ≡ statement ∷ [] → WithNames pr m statement bare
  stated_named (Itself {bare = bare} field head inside is bares) s tail os at clear agree statement e =
      let its = bear pr m kind inner meta listing replaces bares s tail os at clear agree in
      let same =
      one_statement (taken_from s.place (edits.node field head inside)) statement
      (sym (itself_stated head is s.place (edits.node field head inside)) ∙ e) in
      names_as pr m (append-nil (taken_from s.place (edits.node field head inside)) ∙ same) (append-nil bare)
      (its.bears.before [] [] over)
  stated_named (Declared {bare = bare} field inside bares) s tail os at clear agree statement e =
      let s1 : Spot = spot-in s field h.ExportDecl in
      let none =
      other_unreplaced (own_sense pr m kind) inner listing meta replaces s field h.ExportDecl
      ((inside ++ h.Close ∷ []) ++ tail) at clear (λ ins by it. elim it [ ]) in
      let its =
      bear pr m kind inner meta listing replaces bares s1 (h.Close ∷ tail) os
      (at_in_node field h.ExportDecl inside tail at)
      (none, clear-field (Replaced pr m) field s.path clear)
      (agree_in (own_sense pr m kind) inner meta listing replaces s field h.ExportDecl inside os _ agree) in
      let place : s.place + 1 ≡ suc s.place = omega arith in
      let same =
      one_statement (taken_from (suc s.place) (without_last (inside ++ h.Close ∷ []))) statement e in
      names_as pr m
      (append-nil (taken_from (s.place + 1) inside)
      ∙ ap (λ q. taken_from q inside) place
      ∙ ap (taken_from (suc s.place)) (sym (last_off inside h.Close))
      ∙ same)
      (append-nil bare) (its.bears.before [] [] over)
  stated_named (Value {bare = bare} field value bares) s tail os at clear agree statement e =
      let s1 : Spot = spot-in s field h.ExportDefaultExpr in
      let at1 = at_in_node field h.ExportDefaultExpr value tail at in
      let nodes = nodes_from value 1 (bares_nodes bares) in
      let other = from_other_field 1 nodes bares in
      let none =
      other_unreplaced (own_sense pr m kind) inner listing meta replaces s field h.ExportDefaultExpr
      ((value ++ h.Close ∷ []) ++ tail) at clear (λ ins by it. elim it [ ]) in
      let its =
      bear pr m kind inner meta listing replaces other.bares s1 (h.Close ∷ tail) os at1
      (none, clear-field (Replaced pr m) field s.path clear)
      (agree_in (own_sense pr m kind) inner meta listing replaces s field h.ExportDefaultExpr value os _ agree) in
      let ends : List Element = written h.Close ∷ written h.Close ∷ [] in
      let end : WithNames pr m ends (h.Close ∷ h.Close ∷ []) =
      stays {e = written h.Close} tt (stays {e = written h.Close} tt over) in
      let named =
      value_named s1.place (alike other.bares) ends (h.Close ∷ h.Close ∷ [])
      (its.bears.before ends (h.Close ∷ h.Close ∷ []) end) end in
      let whole : WithNames pr m (default_constant s1.place value)
      (h.Open 0 (h.VarDecl Const no_notes) ∷ h.Open 1 h.VarDeclarator ∷ h.Open 0 h.BindingIdent
      ∷ h.Ident 0 default_name 0 r.Binding ∷ h.Close ∷ (bare ++ (h.Close ∷ h.Close ∷ []))) =
      stays {e = written (h.Open 0 (h.VarDecl Const no_notes))} tt
      (stays {e = written (h.Open 1 h.VarDeclarator)} tt
      (stays {e = written (h.Open 0 h.BindingIdent)} tt
      (stays {e = default_binding} tt
      (stays {e = written h.Close} tt
      (names_as pr m refl (ap (λ l. l ++ (h.Close ∷ h.Close ∷ [])) other.back) named))))) in
      let place : s.place + 1 ≡ suc s.place = omega arith in
      let same =
      one_statement (default_constant (suc s.place) (without_last (value ++ h.Close ∷ []))) statement e in
      names_as pr m
      (ap (λ q. default_constant q value) place
      ∙ ap (default_constant (suc s.place)) (sym (last_off value h.Close))
      ∙ same)
      (ap
      (λ l.
      h.Open 0 (h.VarDecl Const no_notes) ∷ h.Open 1 h.VarDeclarator ∷ h.Open 0 h.BindingIdent
      ∷ h.Ident 0 default_name 0 r.Binding ∷ h.Close ∷ l)
      (sym (append_assoc bare (h.Close ∷ []) (h.Close ∷ []))))
      whole
  stated_named (Named {notes = notes} {bare = bare} field its head own x ctxt role more is bares) s tail os at clear
      agree statement e =
      let body : List Item = h.Ident own x ctxt role ∷ more in
      let s1 : Spot = spot-in s field h.ExportDefaultDecl in
      let at1 = at_in_node field h.ExportDefaultDecl (edits.node its head body) tail at in
      let none =
      other_unreplaced (own_sense pr m kind) inner listing meta replaces s field h.ExportDefaultDecl
      ((edits.node its head body ++ h.Close ∷ []) ++ tail) at clear (λ ins by it. elim it [ ]) in
      let clear1 : IsClear (Replaced pr m) s1.path = (none, clear-field (Replaced pr m) field s.path clear) in
      let none1 =
      other_unreplaced (own_sense pr m kind) inner listing meta replaces s1 its head
      ((body ++ h.Close ∷ []) ++ h.Close ∷ tail) at1 clear1 (default_notable head is) in
      let one =
      bear pr m kind inner meta listing replaces bares (spot-in s1 its head) (h.Close ∷ (h.Close ∷ tail)) os
      (at_in_node its head body (h.Close ∷ tail) at1) (none1, clear-field (Replaced pr m) its s1.path clear1)
      (agree_in (own_sense pr m kind) inner meta listing replaces s1 its head body os notes
      (agree_in (own_sense pr m kind) inner meta listing replaces s field h.ExportDefaultDecl
      (edits.node its head body) os notes agree)) in
      let place : s.place + 1 ≡ suc s.place = omega arith in
      let same =
      one_statement
      (default_declaration (suc s.place) (without_last (edits.node its head body ++ h.Close ∷ []))) statement e in
      names_as pr m
      (ap (λ q. default_declaration q (edits.node its head body)) place
      ∙ ap (default_declaration (suc s.place)) (sym (last_off (edits.node its head body) h.Close))
      ∙ same)
      refl
      (declared_named s1.place its head body bare [] [] is none1 one.bears (λ es xs w. w))
  stated_named (Nameless {notes = notes} {bare = bare} field its head own first more is bares) s tail os at clear agree
      statement e =
      let body : List Item = h.Open own first ∷ more in
      let s1 : Spot = spot-in s field h.ExportDefaultDecl in
      let at1 = at_in_node field h.ExportDefaultDecl (edits.node its head body) tail at in
      let none =
      other_unreplaced (own_sense pr m kind) inner listing meta replaces s field h.ExportDefaultDecl
      ((edits.node its head body ++ h.Close ∷ []) ++ tail) at clear (λ ins by it. elim it [ ]) in
      let clear1 : IsClear (Replaced pr m) s1.path = (none, clear-field (Replaced pr m) field s.path clear) in
      let none1 =
      other_unreplaced (own_sense pr m kind) inner listing meta replaces s1 its head
      ((body ++ h.Close ∷ []) ++ h.Close ∷ tail) at1 clear1 (default_notable head is) in
      let one =
      bear pr m kind inner meta listing replaces bares (spot-in s1 its head) (h.Close ∷ (h.Close ∷ tail)) os
      (at_in_node its head body (h.Close ∷ tail) at1) (none1, clear-field (Replaced pr m) its s1.path clear1)
      (agree_in (own_sense pr m kind) inner meta listing replaces s1 its head body os notes
      (agree_in (own_sense pr m kind) inner meta listing replaces s field h.ExportDefaultDecl
      (edits.node its head body) os notes agree)) in
      let place : s.place + 1 ≡ suc s.place = omega arith in
      let same =
      one_statement
      (default_declaration (suc s.place) (without_last (edits.node its head body ++ h.Close ∷ []))) statement e in
      names_as pr m
      (ap (λ q. default_declaration q (edits.node its head body)) place
      ∙ ap (default_declaration (suc s.place)) (sym (last_off (edits.node its head body) h.Close))
      ∙ same)
      refl
      (declared_named s1.place its head body bare (h.Ident 0 default_name 0 r.Binding ∷ [])
      (default_binding ∷ []) is none1 one.bears (λ es xs w. stays {e = default_binding} tt w))

-- the same of the top items of a module's tree
pub top_named : (pr : Program) (m : ℕ) (kind : ModuleKind) (inner : List Denoted) (meta : Option Meant) →
    IsListing (tree_of pr m) → ReplacesNotable (own_sense pr m kind) meta → (field : ℕ) (xs behind : List Item) →
    AreNodesInTurn xs → tree_of pr m ≡ h.Open field h.Module ∷ (xs ++ h.Close ∷ behind) → (item : TopItem) →
    Contains (top_items (tree_of pr m)) item → (notes rest : List Note) (bare : List Item) →
    BaresStated meta notes item.items bare rest → (statement : List Element) →
    stated item.start item.items ≡ statement ∷ [] →
    AgreeInTurn (own_sense pr m kind) inner
    (occurrences_from (spot_before (tree_of pr m) item.start) item.items) notes →
    WithNames pr m statement bare
top_named pr m kind inner meta listing replaces field xs behind nodes tree item c notes rest bare bares statement is
    agree =
    stated_named pr m kind inner meta listing replaces bares its.s its.tail [] its.at clear
    (subst (λ l. AgreeInTurn (own_sense pr m kind) inner l notes)
    (sym (append-nil (occurrences_from its.s item.items)))
    (subst (λ t. AgreeInTurn (own_sense pr m kind) inner (occurrences_from t item.items) notes)
    (ap (spot_before (tree_of pr m)) (sym its.place) ∙ at-spot its.at) agree))
    statement (ap (λ place. stated place item.items) its.place ∙ is)
  where
    its : StandsThere (tree_of pr m) (around_spot h.Module 0 0 ∷ []) item
    its =
        subst (λ l. StandsThere l (around_spot h.Module 0 0 ∷ []) item) (sym tree)
        (top_there field h.Module nodes behind item
        (subst (λ l. Contains (top_items l) item) tree c))

    none : (by : Replacement) → Replaced pr m 0 by → ⊥
    none =
        other_unreplaced (own_sense pr m kind) [] listing meta replaces start field h.Module
        (xs ++ h.Close ∷ behind)
        (subst (λ l. IsSpotAt (tree_of pr m) start l) tree (at-first (tree_of pr m))) tt
        (λ inside by it. elim it [ ])

    clear : IsClear (Replaced pr m) its.s.path
    clear =
        subst (IsClear (Replaced pr m)) (sym its.path_is)
        (clear-field (Replaced pr m) its.field (around_spot h.Module 0 0 ∷ []) (none, tt))
