-- With steps that fit, what a walk makes is what `Rewrites` says.
-- What is made of own elements has no specifier either, so that no name stands alone in one.
-- All of a part that a walk makes anew: it has the same marks, and what is told of steps and notes
-- is told of what is made.
-- What an item states has the same marks in the module and in the bundle.
use Rattle.std.proofs.Common.{◌≡◌, ℕ, zero, suc, true, false, not, List, [], ◌∷◌, ◌++◌, Some, None, drop, refl, ap, sym, ◌∙◌, subst, append_assoc, Bool, ◌&&◌, Option, map, append-nil, inl, inr}
use Rattle.std.specs.Prelude.{slice_get, option_map, bytes_eq, codes, if◌then◌else◌, ⊤}
use Rattle.std.specs.List.{AllZip, list_all}
use Rattle.std.proofs.lemmas.List.Folds.{list_all-append}
use Rattle.std.proofs.lemmas.Bool.{and_parts, not-true}
use Rattle.bundle_syntax.specs.declared.piece.Role.{Role}
use Rattle.bundle_syntax.specs.Item as h
use Rattle.bundle_syntax.specs.Item.{Item, Head}
use Rattle.bundle_syntax.specs.declared.kind.VarDeclKind.TheVariants.{Const}
use Rattle.bundle_syntax.specs.declared.piece.Role.TheVariants as r
use Rattle.bundle_rules.specs.Nodes.{Text, inside}
use Rattle.bundle_rules.specs.Idents.{Ident}
use Rattle.bundle_rules.specs.Shape.{is_specifier}
use Rattle.bundle_rules.specs.Rebuilds.{Change, plain_key, key_in_object}
use Rattle.bundle_rules.specs.Meaning.{Meant, Mark}
use Rattle.bundle_rules.specs.Statements.{moved_to, declaration_head, no_notes}
use Rattle.bundle_rules.specs.Marks as m
use Rattle.bundle_tree_places.specs.Edits.{Around, Anywhere, node, is_occurrence, around_in, in_its_place, binding, shorthand_in_its_place, InObject, InSpecifier, pattern_in_its_place}
use Rattle.bundle_tree_rebuild.specs.Work.{Step, Work, upcoming, after, next, change_at, is_spelled_out_by}
use Rattle.bundle_tree_rebuild.specs.Becomes as becomes
use Rattle.bundle_tree_rebuild.specs.Becomes.{are_reads, is_literal_call, is_one_string, behind_reads, Becomes, kept_notes, named as named_stating}
use Rattle.bundle_merge_theory.specs.walked.Names.{idents_among}
use Rattle.bundle_merge_theory.specs.walked.Rewrites as e
use Rattle.bundle_merge_theory.specs.walked.Rewrites.{Rewrites, TakesStep, is_in_no_specifier, is_own_item, AreOwn, KeepsSymbol, Cover}
use Rattle.bundle_merge_theory.proofs.noted.Shapes.{word_behind, ends_there}
use Rattle.bundle_merge_theory.proofs.walked.NameLemmas.{names_of-append, node_names, word_names, name_names, short_names, kept_names}
use Rattle.bundle_merge_theory.proofs.walked.Keeping.{reads_found, call_found, spelled, keeps, binding_marked}
use Rattle.bundle_merge_theory.specs.walked.Renaming.{ends_no_specifier, HasNoLoneName}
use Rattle.bundle_merge_theory.specs.noted.Marked as d
use Rattle.bundle_merge_theory.specs.noted.Marked.{Note, Marked, node_marks}
use Rattle.bundle_merge_theory.specs.walked.Keeps.{Agree, AgreeOnMeta, meant_in, steps_in, notes_in, notes_alone, Same, alone_note}
use Rattle.bundle_merge_theory.specs.noted.Stated as g
use Rattle.bundle_merge_theory.specs.noted.Stated.{is_default_head, MarkedStated, constant_marks}
use Rattle.bundle_merge_theory.specs.walked.Stated as s
use Rattle.bundle_merge_theory.specs.walked.Stated.{StatesList, SameStated}

-- ---- rewriting

-- Own elements.

pub own_parts : (first second : List Item) → AreOwn (first ++ second) →
    AreOwn first × AreOwn second
own_parts first second own =
    and_parts (list_all is_own_item first) (list_all is_own_item second)
    (sym (list_all-append is_own_item first second) ∙ own)

pub own_inside : (field : ℕ) (head : Head) (inside : List Item) → AreOwn (node field head inside) →
    (not (is_specifier head) ≡ true) × AreOwn inside
own_inside field head inside own =
    let both =
    and_parts (not (is_specifier head)) (list_all is_own_item (inside ++ h.Close ∷ [])) own in
    (both.0, (own_parts inside (h.Close ∷ []) both.1).0)

-- what is in a node that is no specifier
free_inside : (head : Head) (inside : List Item) → not (is_specifier head) ≡ true →
    is_in_no_specifier (around_in head inside) ≡ true
free_inside h.ObjectLit inside own = refl
free_inside h.ImportNamedSpecifier inside own = cc
free_inside h.ExportNamedSpecifier inside own = cc
free_inside _ inside own = refl

-- Steps of parts.

record Split (steps : List Step) (first second : List Ident) : Type 0 where
  front : List Step
  back : List Step
  is : steps ≡ front ++ back
  for_first : AllZip KeepsSymbol front first
  for_second : AllZip KeepsSymbol back second

split : (steps : List Step) (first second : List Ident) →
    AllZip KeepsSymbol steps (first ++ second) → Split steps first second
split steps [] second cover =
    record { front = []; back = steps; is = refl; for_first = tt; for_second = cover }
split [] (x ∷ first) second cover = absurd cover
split (step ∷ steps) (x ∷ first) second cover =
    let rest = split steps first second cover.1 in
    record
    { front = step ∷ rest.front; back = rest.back; is = ap (λ list. step ∷ list) rest.is; for_first = (cover.0, rest.for_first); for_second = rest.for_second }

-- the walk fits, and leaves these steps
pub record Fits (around : Around) (work : Work) (before made : List Item) (rest : Work)
    (more : List Step) : Type 0 where
  pub by : Rewrites around work before made rest
  pub left : rest.steps ≡ more

-- no step, of nothing
no_steps : (steps : List Step) (idents : List Ident) → idents ≡ [] →
    AllZip KeepsSymbol steps idents → steps ≡ []
no_steps [] idents none cover = refl
no_steps (step ∷ steps) [] none cover = absurd cover
no_steps (step ∷ steps) (x ∷ idents) none cover = cc

nothing_taken : {all : List Step} (steps more : List Step) (idents : List Ident) → idents ≡ [] →
    AllZip KeepsSymbol steps idents → all ≡ steps ++ more → all ≡ more
nothing_taken steps more idents none cover is =
    is ∙ ap (λ list. list ++ more) (no_steps steps idents none cover)

-- one step, of one identifier
record OneStep (work : Work) (x : Text) (others : List Ident) (more : List Step) : Type 0 where
  step : Step
  takes : TakesStep work x step
  behind : List Step
  left : (after work).steps ≡ behind ++ more
  cover : AllZip KeepsSymbol behind others

one_step : (work : Work) (steps more : List Step) (ident : Ident) (others idents : List Ident) →
    work.steps ≡ steps ++ more → idents ≡ ident ∷ others → AllZip KeepsSymbol steps idents →
    OneStep work ident.0 others more
one_step work steps more ident others idents is names cover =
    go steps is (subst (λ list. AllZip KeepsSymbol steps list) names cover)
  where
    go : (its : List Step) → work.steps ≡ its ++ more → AllZip KeepsSymbol its (ident ∷ others) →
        OneStep work ident.0 others more
    go [] is_so all = absurd all
    go (step ∷ behind) is_so all =
        record
        { step = step; takes = record { is = ap (λ list. slice_get list 0) is_so; symbol = all.0 }; behind = behind; left = ap (λ list. drop 1 list) is_so; cover = all.1 }

-- the last step
one_left : {work : Work} {x : Text} {more : List Step} → (one : OneStep work x [] more) →
    (after work).steps ≡ more
one_left {more = more} one =
    one.left ∙ ap (λ list. list ++ more) (no_steps one.behind [] refl one.cover)

next_is : (work : Work) (x : Text) (step : Step) → upcoming work ≡ Some step →
    next work x ≡ Some (change_at x step)
next_is work x step is = ap (λ found. option_map (change_at x) found) is

-- Names.

-- the one name of static reads
record OneName (items rest : List Item) : Type 0 where
  ident : Ident
  is : idents_among items ≡ ident ∷ idents_among rest

reads_names : (count : ℕ) (items rest : List Item) → AreOwn items →
    behind_reads count items ≡ Some rest → OneName items rest
reads_names zero (h.Ident field x ctxt r.Reference ∷ items) rest own is =
    let same : items ≡ rest = cc in
    record { ident = (x, ctxt); is = ap (λ list. (x, ctxt) ∷ idents_among list) same }
reads_names (suc count) (h.Open field h.MemberExpr ∷ items) rest own is =
    let word = word_behind (behind_reads count items) rest is in
    let one =
    reads_names count items
    (h.Open word.field (h.IdentName word.word) ∷ h.Close ∷ h.Close ∷ rest) own word.is in
    record { ident = one.ident; is = one.is }
reads_names _ items rest own is = cc

member_names : (field count : ℕ) (inside : List Item) → AreOwn (node field h.MemberExpr inside) →
    are_reads count inside ≡ true → OneName (node field h.MemberExpr inside) []
member_names field count inside own reads =
    let one =
    reads_names count (node 0 h.MemberExpr inside) [] own
    (ends_there (behind_reads count (node 0 h.MemberExpr inside)) reads) in
    record { ident = one.ident; is = one.is }

-- the one name of a literal call
string_names : (arguments : List Item) → is_one_string arguments ≡ true → idents_among arguments ≡ []
string_names
    (h.Open field (h.ExprOrSpread false) ∷ h.Open inner (h.Str value raw) ∷ h.Close ∷ h.Close ∷ [])
    is =
    refl
string_names _ is = cc

call_names : (field : ℕ) (inside : List Item) → AreOwn (node field h.CallExpr inside) →
    is_literal_call inside ≡ true → OneName (node field h.CallExpr inside) []
call_names field (h.Ident inner x ctxt r.Reference ∷ arguments) own calls = record {
  ident = (x, ctxt);
  is =
      node_names field h.CallExpr (h.Ident inner x ctxt r.Reference ∷ arguments)
      ∙ ap (λ list. (x, ctxt) ∷ list) (string_names arguments calls);
}
call_names field _ own calls = cc

-- Main

named : {around : Around} {work : Work} {more : List Step} (field : ℕ) (x : Text) (ctxt : ℕ)
    (role : Role) → is_occurrence role ≡ true → is_in_no_specifier around ≡ true →
    OneStep work x [] more →
    Fits around work (h.Ident field x ctxt role ∷ [])
    (in_its_place around (next work x) field x ctxt role) (after work) more
named {around = around} {work = work} field x ctxt role occurs free one = record {
  by =
      subst
      (λ change.
      Rewrites around work (h.Ident field x ctxt role ∷ [])
      (in_its_place around change field x ctxt role) (after work))
      (sym (next_is work x one.step one.takes.is))
      (e.Name around field x ctxt role one.step occurs free one.takes);
  left = one_left one;
}

short : {around : Around} {work rest : Work} {more : List Step} (field : ℕ) (x : Text) (ctxt : ℕ)
    (role : Role) {default made : List Item} (others : List Ident) → is_occurrence role ≡ true →
    OneStep work x others more → Fits Anywhere (after work) default made rest more →
    Fits around work (node field h.AssignPatProp (binding None 0 x ctxt role ++ default))
    (shorthand_in_its_place (next work x) field x ctxt role made) rest more
short {around = around} {work = work} {rest = rest} field x ctxt role {default = default} {made = made} others occurs one within = record {
  by =
      subst
      (λ change.
      Rewrites around work (node field h.AssignPatProp (binding None 0 x ctxt role ++ default))
      (shorthand_in_its_place change field x ctxt role made) rest)
      (sym (next_is work x one.step one.takes.is))
      (e.Shorthand field x ctxt role one.step occurs one.takes within.by);
  left = within.left;
}

pub fits : {around : Around} {work rest : Work} {before made : List Item} →
    Becomes around work before made rest → is_in_no_specifier around ≡ true → AreOwn before →
    (steps more : List Step) → work.steps ≡ steps ++ more → Cover steps before →
    Fits around work before made rest more
fits becomes.Nothing free own steps more is cover =
    record { by = e.Nothing; left = nothing_taken steps more [] refl cover is }
fits {around = around} {work = work} (becomes.Joined {first = first} {second = second} one two) free own
    steps more is cover =
    let parts = own_parts first second own in
    let its =
    split steps (idents_among first) (idents_among second)
    (subst (λ list. AllZip KeepsSymbol steps list) (names_of-append first second) cover) in
    let front =
    fits one free parts.0 its.front (its.back ++ more)
    (is ∙ (ap (λ list. list ++ more) its.is ∙ append_assoc its.front its.back more))
    its.for_first in
    let back = fits two free parts.1 its.back more front.left its.for_second in
    record { by = e.Joined front.by back.by; left = back.left }
fits (becomes.Hole field) free own steps more is cover =
    record { by = e.Hole field; left = nothing_taken steps more [] refl cover is }
fits (becomes.Word field x ctxt role plain) free own steps more is cover =
    record
    { by = e.Word field x ctxt role plain; left = nothing_taken steps more _ (word_names field x ctxt role plain) cover is }
fits (becomes.Name around {work = work} field x ctxt role occurs) free own steps more is cover =
    named field x ctxt role occurs free
    (one_step work steps more (x, ctxt) [] _ is (name_names field x ctxt role [] occurs) cover)
fits (becomes.Inside field head {inside = inside} it_stays one) free own steps more is cover =
    let parts = own_inside field head inside own in
    let within =
    fits one (free_inside head inside parts.0) parts.1 steps more is
    (subst (λ list. AllZip KeepsSymbol steps list) (node_names field head inside) cover) in
    record { by = e.Inside field head it_stays within.by; left = within.left }
fits (becomes.Declaration field kind notes {inside = inside} one) free own steps more is cover =
    let parts = own_inside field (h.VarDecl kind notes) inside own in
    let within =
    fits one refl parts.1 steps more is
    (subst (λ list. AllZip KeepsSymbol steps list)
    (node_names field (h.VarDecl kind notes) inside) cover) in
    record { by = e.Declaration field kind notes within.by; left = within.left }
fits (becomes.Kept field head first {inside = inside} {more = others} keeps one two) free own steps more
    is cover =
    let parts =
    own_parts (node first h.MemberExpr inside) others
    (own_inside field head (node first h.MemberExpr inside ++ others) own).1 in
    let its =
    split steps (idents_among inside) (idents_among others)
    (subst (λ list. AllZip KeepsSymbol steps list) (kept_names field head first inside others)
    cover) in
    let front =
    fits one refl (own_inside first h.MemberExpr inside parts.0).1 its.front (its.back ++ more)
    (is ∙ (ap (λ list. list ++ more) its.is ∙ append_assoc its.front its.back more))
    its.for_first in
    let back = fits two refl parts.1 its.back more front.left its.for_second in
    record { by = e.Kept field head first keeps front.by back.by; left = back.left }
fits (becomes.Shorthand {work = work} field x ctxt role {default = default} occurs one) free own steps
    more is cover =
    let taken =
    one_step work steps more (x, ctxt) (idents_among default) _ is
    (short_names field x ctxt role default occurs) cover in
    let parts =
    own_parts (binding None 0 x ctxt role) default
    (own_inside field h.AssignPatProp (binding None 0 x ctxt role ++ default) own).1 in
    short field x ctxt role (idents_among default) occurs taken
    (fits one refl parts.1 taken.behind more taken.left taken.cover)
fits (becomes.OfReads {work = work} field name inside found) free own steps more is cover =
    let reads = reads_found (upcoming work) inside name found in
    let one = member_names field reads.count inside own reads.reads in
    record
    { by = e.OfReads field name inside found; left = one_left (one_step work steps more one.ident [] _ is one.is cover) }
fits (becomes.OfCall {work = work} field name inside found) free own steps more is cover =
    let calls = call_found (upcoming work) inside name found in
    let one = call_names field inside own calls.calls in
    record
    { by = e.OfCall field name inside found; left = one_left (one_step work steps more one.ident [] _ is one.is cover) }
fits (becomes.OfMeta field kind name found) free own steps more is cover =
    record
    { by = e.OfMeta field kind name found; left = nothing_taken steps more [] refl cover is }

-- ---- owning
both_and : (x y : Bool) → x ≡ true → y ≡ true → (x && y) ≡ true
both_and true y one two = two
both_and false y one two = one

pub own_joined : (first second : List Item) → AreOwn first → AreOwn second →
    AreOwn (first ++ second)
own_joined first second one two =
    list_all-append is_own_item first second
    ∙ both_and (list_all is_own_item first) (list_all is_own_item second) one two

pub own_node : (field : ℕ) (head : Head) (inside : List Item) → not (is_specifier head) ≡ true →
    AreOwn inside → AreOwn (node field head inside)
own_node field head inside free own =
    both_and (not (is_specifier head)) (list_all is_own_item (inside ++ h.Close ∷ [])) free
    (own_joined inside (h.Close ∷ []) own refl)

own_name : (field : ℕ) (x : Text) (ctxt : ℕ) (role : Role) → is_occurrence role ≡ true →
    AreOwn (h.Ident field x ctxt role ∷ [])
own_name field x ctxt role occurs = both_and (is_occurrence role) true occurs refl

own_key : (x : Text) (b : Bool) →
    AreOwn
    (if b then h.Open 0 h.ComputedPropName ∷ h.Open 0 (h.Str x None) ∷ h.Close ∷ h.Close
    ∷ [] else plain_key x)
own_key x true = refl
own_key x false = refl

own_object : (b : Bool) (field : ℕ) (x : Text) (change : Change) (role : Role) →
    is_occurrence role ≡ true →
    AreOwn
    (if b then node field h.KeyValueProp
    (key_in_object x ++ h.Ident 1 change.ident.0 change.ident.1 role ∷ []) else h.Ident field
    change.ident.0 change.ident.1 role ∷ [])
own_object true field x change role occurs =
    own_node field h.KeyValueProp
    (key_in_object x ++ h.Ident 1 change.ident.0 change.ident.1 role ∷ []) refl
    (own_joined (key_in_object x) (h.Ident 1 change.ident.0 change.ident.1 role ∷ [])
    (own_key x (bytes_eq x (codes "__proto__")))
    (own_name 1 change.ident.0 change.ident.1 role occurs))
own_object false field x change role occurs =
    own_name field change.ident.0 change.ident.1 role occurs

own_place : (around : Around) (change : Change) (field : ℕ) (x : Text) (ctxt : ℕ) (role : Role) →
    is_occurrence role ≡ true → is_in_no_specifier around ≡ true →
    AreOwn (in_its_place around (Some change) field x ctxt role)
own_place Anywhere change field x ctxt role occurs free =
    own_name field change.ident.0 change.ident.1 role occurs
own_place InObject change field x ctxt role occurs free =
    own_object change.is_spelled_out field x change role occurs
own_place InSpecifier change field x ctxt role occurs free = cc

own_binding : (change : Change) (field : ℕ) (x : Text) (ctxt : ℕ) (role : Role) →
    is_occurrence role ≡ true → AreOwn (binding (Some change) field x ctxt role)
own_binding change field x ctxt role occurs =
    own_node field h.BindingIdent (h.Ident 0 change.ident.0 change.ident.1 role ∷ []) refl
    (own_name 0 change.ident.0 change.ident.1 role occurs)

own_pattern : (change : Change) (x : Text) (ctxt : ℕ) (role : Role) (made : List Item) →
    is_occurrence role ≡ true → AreOwn made →
    AreOwn (pattern_in_its_place (Some change) x ctxt role made)
own_pattern change x ctxt role [] occurs own = own_binding change 1 x ctxt role occurs
own_pattern change x ctxt role (first ∷ more) occurs own =
    own_node 1 h.AssignPat (binding (Some change) 0 x ctxt role ++ first ∷ more) refl
    (own_joined (binding (Some change) 0 x ctxt role) (first ∷ more)
    (own_binding change 0 x ctxt role occurs) own)

own_short : (b : Bool) (change : Change) (field : ℕ) (x : Text) (ctxt : ℕ) (role : Role)
    (made : List Item) → is_occurrence role ≡ true → AreOwn made →
    AreOwn (spelled b change field x ctxt role made)
own_short true change field x ctxt role made occurs own =
    own_node field h.KeyValuePatProp
    (plain_key x ++ pattern_in_its_place (Some change) x ctxt role made) refl
    (own_joined (plain_key x) (pattern_in_its_place (Some change) x ctxt role made) refl
    (own_pattern change x ctxt role made occurs own))
own_short false change field x ctxt role made occurs own =
    own_node field h.AssignPatProp (binding (Some change) 0 x ctxt role ++ made) refl
    (own_joined (binding (Some change) 0 x ctxt role) made
    (own_binding change 0 x ctxt role occurs) own)

-- what is made of own elements
pub own_made : {around : Around} {work rest : Work} {before made : List Item} →
    Rewrites around work before made rest → AreOwn before → AreOwn made
own_made e.Nothing own = refl
own_made
    (e.Joined {first = first} {made_first = made_first} {second = second}
    {made_second = made_second} one two)
    own =
    let parts = own_parts first second own in
    own_joined made_first made_second (own_made one parts.0) (own_made two parts.1)
own_made (e.Hole field) own = refl
own_made (e.Word field x ctxt role plain) own = own
own_made (e.Name around field x ctxt role step occurs free takes) own =
    own_place around (change_at x step) field x ctxt role occurs free
own_made (e.Inside field head {inside = inside} {made = made} it_stays one) own =
    let parts = own_inside field head inside own in
    own_node field head made parts.0 (own_made one parts.1)
own_made (e.Declaration {work = work} field kind notes {inside = inside} {made = made} one) own =
    own_node field (h.VarDecl kind (kept_notes work.clears_notes notes)) made refl
    (own_made one (own_inside field (h.VarDecl kind notes) inside own).1)
own_made
    (e.Kept field head first {inside = inside} {made = made} {more = more} {made_more = made_more}
    keeps one two)
    own =
    let whole = own_inside field head (node first h.MemberExpr inside ++ more) own in
    let parts = own_parts (node first h.MemberExpr inside) more whole.1 in
    own_node field head (node first h.MemberExpr made ++ made_more) whole.0
    (own_joined (node first h.MemberExpr made) made_more
    (own_node first h.MemberExpr made refl
    (own_made one (own_inside first h.MemberExpr inside parts.0).1))
    (own_made two parts.1))
own_made (e.Shorthand field x ctxt role step {default = default} {made = made} occurs takes one)
    own =
    own_short (is_spelled_out_by step.spelling step.ident.0 x) (change_at x step) field x ctxt role
    made occurs
    (own_made one
    (own_parts (binding None 0 x ctxt role) default (own_inside field h.AssignPatProp (binding None 0 x ctxt role ++ default) own).1).1)
own_made (e.OfReads field name inside found) own = refl
own_made (e.OfCall field name inside found) own = refl
own_made (e.OfMeta field kind name found) own = refl

-- Specifiers.

-- no open node is a specifier
abbrev NoneOpen : List Bool → Type 0
NoneOpen [] = ⊤
NoneOpen (spec ∷ open_nodes) = (spec ≡ false) × NoneOpen open_nodes

own_ends : (open_nodes : List Bool) (is_name : Bool) (items : List Item) → NoneOpen open_nodes →
    AreOwn items → ends_no_specifier open_nodes is_name items ≡ true
own_ends open_nodes is_name [] none own = refl
own_ends open_nodes is_name (h.Open field head ∷ rest) none own =
    let parts = and_parts (not (is_specifier head)) (list_all is_own_item rest) own in
    own_ends (is_specifier head ∷ open_nodes) false rest
    (not-true (is_specifier head) parts.0, none) parts.1
own_ends open_nodes is_name (h.Ident field x ctxt role ∷ rest) none own =
    own_ends open_nodes (is_occurrence role) rest none
    (and_parts (is_occurrence role) (list_all is_own_item rest) own).1
own_ends open_nodes is_name (h.Hole field ∷ rest) none own =
    own_ends open_nodes false rest none own
own_ends [] is_name (h.Close ∷ rest) none own = own_ends [] false rest none own
own_ends (spec ∷ open_nodes) is_name (h.Close ∷ rest) none own =
    ap (λ b. not (b && is_name) && ends_no_specifier open_nodes false rest) none.0
    ∙ own_ends open_nodes false rest none.1 own

-- own elements
pub own_lone : (items : List Item) → AreOwn items → HasNoLoneName items
own_lone items own = own_ends [] false items tt own

-- ---- whole

-- what fits a list that is over is nothing
pub none_left : (steps : List Step) (notes : List Note) → Agree steps notes → steps ≡ [] → notes ≡ []
none_left steps [] agree over = refl
none_left [] (note ∷ notes) agree over = absurd agree
none_left (step ∷ steps) (note ∷ notes) agree over = cc

-- what a walk makes of a part has the marks that the part has
pub becomes_same : {around : Around} {work rest : Work} {before made : List Item} →
    Becomes around work before made rest → is_in_no_specifier around ≡ true → AreOwn before →
    Cover work.steps before → (meta : Option Meant) (notes : List Note) → Agree work.steps notes →
    AgreeOnMeta work.meta meta → Same around work meta notes before made
becomes_same {around = around} {work = work} {rest = rest} {before = before} {made = made} one free
    own cover meta notes agree on_meta =
    let its = fits one free own work.steps [] (sym (append-nil work.steps)) cover in
    let all = keeps its.by meta notes agree on_meta in
    let over : all.left ≡ [] = none_left rest.steps all.left all.agree its.left in
    record {
      marks = all.marks;
      entries = all.entries;
      source = subst (λ left. Marked meta around notes before all.marks left) over all.source;
      result =
          subst (λ meants. Marked None around (notes_alone meants) made all.marks [])
          (append-nil (map meant_in all.entries)) (all.result []);
      names = all.names;
      steps_are =
          all.steps_are
          ∙ (ap (λ list. steps_in all.entries ++ list) its.left
          ∙ append-nil (steps_in all.entries));
      notes_are =
          all.notes_are
          ∙ (ap (λ list. notes_in all.entries ++ list) over ∙ append-nil (notes_in all.entries));
      of_meta = all.of_meta;
    }

-- ---- stating

-- an element in another field
pub moved_names : (field : ℕ) (first : Item) (more : List Item) →
    idents_among (moved_to field first ∷ more) ≡ idents_among (first ∷ more)
moved_names field (h.Open old head) more = refl
moved_names field (h.Ident old x ctxt r.Word) more = refl
moved_names field (h.Ident old x ctxt r.Binding) more = refl
moved_names field (h.Ident old x ctxt r.Reference) more = refl
moved_names field (h.Hole old) more = refl
moved_names field h.Close more = refl

pub moved_own : (field : ℕ) (first : Item) → is_own_item (moved_to field first) ≡ is_own_item first
moved_own field (h.Open old head) = refl
moved_own field (h.Ident old x ctxt role) = refl
moved_own field (h.Hole old) = refl
moved_own field h.Close = refl

-- the same of a part that the item states as it is
of_part : {work : Work} {meta : Option Meant} {notes : List Note} {name : Ident} {default : Meant}
    {part item made : List Item} → (same : Same Anywhere work meta notes part made) →
    MarkedStated meta default notes item same.marks [] →
    SameStated work meta notes name default item made
of_part same source =
    record
    { marks = same.marks; entries = same.entries; front = []; front_is = inl refl; source = source; result = same.result; names = same.names; steps_are = same.steps_are; notes_are = same.notes_are; of_meta = same.of_meta }

-- a declaration by the name of the default
declared_head : (head : Head) (its : Option Note) (inside : List Item) →
    is_default_head head ≡ true → d.node_stays None its (declaration_head head) inside ≡ true
declared_head h.FnExpr its inside is = refl
declared_head h.ClassExpr its inside is = refl
declared_head _ its inside is = cc

around_declared : (head : Head) (inside : List Item) → is_default_head head ≡ true →
    around_in (declaration_head head) inside ≡ Anywhere
around_declared h.FnExpr inside is = refl
around_declared h.ClassExpr inside is = refl
around_declared _ inside is = cc

in_declaration : (head : Head) (its : List Meant) {made : List Item} {marks : List Mark} →
    is_default_head head ≡ true → Marked None Anywhere (notes_alone its) made marks [] →
    Marked None Anywhere (notes_alone its) (node 0 (declaration_head head) made)
    (node_marks 0 (declaration_head head) marks) []
in_declaration head its {made = made} {marks = marks} is one =
    d.Inside 0 (declaration_head head) (declared_head head (d.next_note (notes_alone its)) made is)
    (subst (λ around. Marked None around (notes_alone its) made marks [])
    (sym (around_declared head made is)) one)

-- the parts of a default declaration
pub default_parts : (steps : List Step) (field inner : ℕ) (head : Head) (body : List Item) →
    AreOwn (node field h.ExportDefaultDecl (node inner head body)) →
    Cover steps (node field h.ExportDefaultDecl (node inner head body)) →
    AreOwn body × Cover steps body
default_parts steps field inner head body own cover = (
  (own_inside inner head body (own_inside field h.ExportDefaultDecl (node inner head body) own).1).1,
  subst (λ names. AllZip KeepsSymbol steps names)
      (node_names field h.ExportDefaultDecl (node inner head body) ∙ node_names inner head body)
      cover,
)

pub states_same : {work : Work} {name : Ident} {item made : List Item} →
    StatesList work name item made → AreOwn item → Cover work.steps item →
    (meta : Option Meant) (notes : List Note) (default : Meant) → Agree work.steps notes →
    AgreeOnMeta work.meta meta → SameStated work meta notes name default item made
states_same (s.StatementStates field head part itself one) own cover meta notes default agree
    on_meta =
    let same = becomes_same one refl own cover meta notes agree on_meta in
    of_part same (g.Itself field head part itself same.source)
states_same {work = work} (s.DeclarationStates field part one) own cover meta notes default agree
    on_meta =
    let same =
    becomes_same one refl (own_inside field h.ExportDecl part own).1
    (subst (λ names. AllZip KeepsSymbol work.steps names) (node_names field h.ExportDecl part)
    cover)
    meta notes agree on_meta in
    of_part same (g.Declared field part same.source)
states_same {work = work} {name = name} (s.ValueStates field first more {value = value} one) own
    cover meta notes default agree on_meta =
    let part_own = (own_inside field h.ExportDefaultExpr (first ∷ more) own).1 in
    let same =
    becomes_same one refl
    (ap (λ b. b && list_all is_own_item more) (moved_own 1 first) ∙ part_own)
    (subst (λ names. AllZip KeepsSymbol work.steps names)
    (node_names field h.ExportDefaultExpr (first ∷ more) ∙ sym (moved_names 1 first more))
    cover)
    meta notes agree on_meta in
    record {
      marks = constant_marks default same.marks;
      entries = same.entries;
      front = (name, default) ∷ [];
      front_is = inr (refl, refl);
      source = g.Value field (first ∷ more) same.source;
      result =
          d.Inside 0 _ refl
          (d.Inside 1 h.VarDeclarator refl
          (d.Joined
          (binding_marked 0 name r.Binding (alone_note default) (notes_alone (map meant_in same.entries))
          refl)
          same.result));
      names =
          node_names 0 (h.VarDecl Const no_notes)
          (node 1 h.VarDeclarator (node 0 h.BindingIdent (named_stating 0 name r.Binding) ++ value))
          ∙ (node_names 1 h.VarDeclarator (node 0 h.BindingIdent (named_stating 0 name r.Binding) ++ value)
          ∙ ap (λ names. name ∷ names) same.names);
      steps_are = same.steps_are;
      notes_are = same.notes_are;
      of_meta = same.of_meta;
    }
states_same {work = work}
    (s.OwnStates field inner name_field x ctxt role head body {made = made} is one) own cover meta
    notes default agree on_meta =
    let parts =
    default_parts work.steps field inner head (h.Ident name_field x ctxt role ∷ body) own
    cover in
    let same = becomes_same one refl parts.0 parts.1 meta notes agree on_meta in
    record {
      marks = node_marks 0 (declaration_head head) same.marks;
      entries = same.entries;
      front = [];
      front_is = inl refl;
      source = g.Named field inner head name_field x ctxt role body is same.source;
      result = in_declaration head (map meant_in same.entries) is same.result;
      names = node_names 0 (declaration_head head) made ∙ same.names;
      steps_are = same.steps_are;
      notes_are = same.notes_are;
      of_meta = same.of_meta;
    }
states_same {work = work} {name = name}
    (s.DefaultStates field inner first_field head first more {made = made} is one) own cover meta
    notes default agree on_meta =
    let parts =
    default_parts work.steps field inner head (h.Open first_field first ∷ more) own cover in
    let same = becomes_same one refl parts.0 parts.1 meta notes agree on_meta in
    record {
      marks = node_marks 0 (declaration_head head) (m.Name 0 default ∷ same.marks);
      entries = same.entries;
      front = (name, default) ∷ [];
      front_is = inr (refl, refl);
      source = g.Nameless field inner head first_field first more is same.source;
      result =
          in_declaration head (default ∷ map meant_in same.entries) is
          (d.Joined (d.Name Anywhere 0 name.0 name.1 r.Binding refl) same.result);
      names =
          node_names 0 (declaration_head head) (named_stating 0 name r.Binding ++ made)
          ∙ ap (λ names. name ∷ names) same.names;
      steps_are = same.steps_are;
      notes_are = same.notes_are;
      of_meta = same.of_meta;
    }
