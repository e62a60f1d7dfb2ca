-- What a walk makes of a part of a tree is the part with a name in the place of each node that is replaced, and then with
-- other identifiers: what is short is spelled out exactly where the symbol changes.
use Rattle.std.proofs.Common.{◌≡◌, ℕ, suc, ◌+◌, Bool, true, false, not, List, [], ◌∷◌, ◌++◌, Option, Some, None, drop, length, length-append, refl, ap, ap₂, sym, ◌∙◌, subst, append_assoc, append-nil, ◌&&◌}
use Rattle.std.specs.Prelude.{slice_get, bytes_eq, codes, if◌then◌else◌, ⊤}
use Rattle.std.specs.List.{AllZip, list_all}
use Rattle.std.proofs.lemmas.Bool.{false≢true}
use Rattle.std.proofs.lemmas.Slice.Eq.{bytes_eq-Decides}
use Rattle.bundle_syntax.specs.declared.kind.MetaPropKind.{MetaPropKind}
use Rattle.bundle_syntax.specs.declared.kind.MetaPropKind.TheVariants as p
use Rattle.bundle_syntax.specs.declared.piece.Role.{Role}
use Rattle.bundle_syntax.specs.declared.piece.Role.TheVariants as r
use Rattle.bundle_syntax.specs.Item as h
use Rattle.bundle_syntax.specs.Item.{Item, Head}
use Rattle.bundle_rules.specs.Nodes.{Text}
use Rattle.bundle_rules.specs.Idents.{Ident}
use Rattle.bundle_rules.specs.Statements.{no_notes, declaration_head, default_name}
use Rattle.bundle_rules.specs.Shape.{is_specifier}
use Rattle.bundle_rules.specs.Cleared.{cleared_head, tidied}
use Rattle.bundle_rules.specs.Meaning.{Meant}
use Rattle.bundle_rules.specs.Rebuilds.{Change, change_to, changes_to, plain_key, key_in_object}
use Rattle.bundle_tree_places.specs.Edits as e
use Rattle.bundle_tree_places.specs.Edits.{Around, Anywhere, InObject, InSpecifier, Edits, node, is_occurrence, is_plain, around_in, in_its_place, binding, pattern_in_its_place, shorthand_in_its_place}
use Rattle.bundle_tree_rebuild.specs.Work.{Step, Work, upcoming, after, change_at, is_spelled_out_by}
use Rattle.bundle_tree_rebuild.specs.Becomes.{Becomes, stays, kept_notes, reference, name_for_meta, keeps_first}
use Rattle.bundle_tree_rebuild.specs.declared.rewrite.Whole.TheVariants as w
use Rattle.bundle_merge_theory.specs.noted.Marked.{Note}
use Rattle.bundle_merge_theory.specs.walked.Rewrites as s
use Rattle.bundle_merge_theory.specs.walked.Rewrites.{Rewrites, TakesStep, is_in_no_specifier, is_own_item, AreOwn, Cover, KeepsSymbol}
use Rattle.bundle_merge_theory.specs.walked.Keeps.{AgreeOnMeta, Agree}
use Rattle.bundle_merge_theory.specs.walked.Names.{idents_among}
use Rattle.bundle_merge_theory.proofs.walked.NameLemmas.{name_names, names_of-append, node_names, short_names, kept_names}
use Rattle.bundle_merge_theory.proofs.walked.Keeping.{First, first_of, still_stays, no_meta, name_made_names, spelled, spelled_names, ReadsFound, reads_found, CallFound, call_found}
use Rattle.bundle_merge_theory.proofs.walked.Rewriting.{none_left, own_parts, own_inside, fits, moved_names, moved_own, default_parts}
use Rattle.bundle_merge_theory.proofs.finished.Twice.{tidied-append, tidied-node}
use Rattle.bundle_merge_theory.specs.form.Bares as b
use Rattle.bundle_merge_theory.specs.form.Bares.{Bares, BaresStated}
use Rattle.bundle_merge_theory.specs.walked.Stated as t
use Rattle.bundle_merge_theory.specs.walked.Stated.{StatesList, constant_declared}
use Rattle.bundle_merge_theory.specs.noted.Stated.{is_default_head}
use Rattle.bundle_syntax.specs.declared.kind.VarDeclKind.TheVariants.{Const}

-- Steps that spell out where the symbol changes.

abbrev pub Spells : Step → Type 0
Spells step = (y x : Text) → is_spelled_out_by step.spelling y x ≡ not (bytes_eq y x)

abbrev pub AllSpell : List Step → Type 0
AllSpell [] = ⊤
AllSpell (step ∷ steps) = Spells step × AllSpell steps

spells_first : (steps : List Step) (step : Step) → AllSpell steps → slice_get steps 0 ≡ Some step → Spells step
spells_first [] step all is = cc
spells_first (first ∷ steps) step all is = let same : first ≡ step = cc in subst Spells same all.0

spells_rest : (steps : List Step) → AllSpell steps → AllSpell (drop 1 steps)
spells_rest [] all = tt
spells_rest (first ∷ steps) all = all.1

-- texts are told apart alike from either side
eq_back : (x y : Text) → bytes_eq x y ≡ bytes_eq y x
eq_back x y = by (bytes_eq x y) (bytes_eq y x) refl refl
  where
    by : (a c : Bool) → bytes_eq x y ≡ a → bytes_eq y x ≡ c → a ≡ c
    by true true one two = refl
    by false false one two = refl
    by true false one two =
        absurd (false≢true (sym two ∙ (bytes_eq-Decides y x).1 (sym ((bytes_eq-Decides x y).0 one))))
    by false true one two =
        absurd (false≢true (sym one ∙ (bytes_eq-Decides x y).1 (sym ((bytes_eq-Decides y x).0 two))))

same_change : (x : Text) (step : Step) → Spells step → change_to (x, 0) step.ident ≡ change_at x step
same_change x step spells =
    ap (λ spelled_out. record { ident = step.ident; is_spelled_out = spelled_out })
    (ap not (eq_back x step.ident.0) ∙ sym (spells step.ident.0 x))

-- Changes one after the other.

changes_joined : (a c olds news : List Ident) → length a ≡ length c →
    changes_to (a ++ olds) (c ++ news) ≡ changes_to a c ++ changes_to olds news
changes_joined [] [] olds news long = refl
changes_joined [] (y ∷ c) olds news long = cc
changes_joined (x ∷ a) [] olds news long = cc
changes_joined (x ∷ a) (y ∷ c) olds news long =
    let rest : length a ≡ length c = cc in
    ap (λ more. change_to x y ∷ more) (changes_joined a c olds news rest)

-- Heads.

own_around : (head : Head) (xs ys : List Item) → not (is_specifier head) ≡ true →
    around_in head xs ≡ around_in (cleared_head head) ys
own_around h.ObjectLit xs ys own = refl
own_around h.ImportNamedSpecifier xs ys own = cc
own_around h.ExportNamedSpecifier xs ys own = cc
own_around (h.ImportDecl meta) xs ys own = refl
own_around (h.NamedExport meta) xs ys own = refl
own_around (h.ExportAll meta) xs ys own = refl
own_around (h.VarDecl kind meta) xs ys own = refl
own_around _ xs ys own = refl

own_plain : (work : Work) (head : Head) (inside xs : List Item) → stays work head inside ≡ true →
    not (is_specifier head) ≡ true → is_plain (cleared_head head) xs ≡ true
own_plain work h.AssignPatProp inside xs it_stays own = cc
own_plain work h.ImportNamedSpecifier inside xs it_stays own = cc
own_plain work h.ExportNamedSpecifier inside xs it_stays own = cc
own_plain work (h.ImportDecl meta) inside xs it_stays own = refl
own_plain work (h.NamedExport meta) inside xs it_stays own = refl
own_plain work (h.ExportAll meta) inside xs it_stays own = refl
own_plain work (h.VarDecl kind meta) inside xs it_stays own = refl
own_plain work _ inside xs it_stays own = refl

kept_around : (head : Head) (first : ℕ) (xs : List Item) → keeps_first head first ≡ true →
    around_in (cleared_head head) xs ≡ Anywhere
kept_around (h.AssignExpr op) first xs keeps = refl
kept_around (h.OptChainExpr optional) first xs keeps = refl
kept_around _ first xs keeps = cc

kept_plain : (head : Head) (first : ℕ) (xs : List Item) → keeps_first head first ≡ true →
    is_plain (cleared_head head) xs ≡ true
kept_plain (h.AssignExpr op) first xs keeps = refl
kept_plain (h.OptChainExpr optional) first xs keeps = refl
kept_plain _ first xs keeps = cc

-- What is made has nothing to tidy but notes.

tidied_name : (field : ℕ) (ident : Ident) (role : Role) (more : List Item) → is_occurrence role ≡ true →
    tidied (h.Ident field ident.0 ident.1 role ∷ more) ≡ h.Ident field ident.0 ident.1 role ∷ tidied more
tidied_name field ident r.Word more occurs = cc
tidied_name field ident r.Binding more occurs = refl
tidied_name field ident r.Reference more occurs = refl

tidied_key : (x : Text) (c : Bool) (more : List Item) →
    tidied ((if c then h.Open 0 h.ComputedPropName ∷ h.Open 0 (h.Str x None) ∷ h.Close ∷ h.Close ∷ [] else plain_key x) ++ more)
    ≡ (if c then h.Open 0 h.ComputedPropName ∷ h.Open 0 (h.Str x None) ∷ h.Close ∷ h.Close ∷ [] else plain_key x) ++ tidied more
tidied_key x true more = refl
tidied_key x false more = refl

tidied_object : (c : Bool) (field : ℕ) (x : Text) (ident : Ident) (role : Role) → is_occurrence role ≡ true →
    tidied
    (if c then node field h.KeyValueProp (key_in_object x ++ h.Ident 1 ident.0 ident.1 role ∷ [])
    else h.Ident field ident.0 ident.1 role ∷ [])
    ≡ (if c then node field h.KeyValueProp (key_in_object x ++ h.Ident 1 ident.0 ident.1 role ∷ [])
    else h.Ident field ident.0 ident.1 role ∷ [])
tidied_object true field x ident role occurs =
    tidied-node field h.KeyValueProp (key_in_object x ++ h.Ident 1 ident.0 ident.1 role ∷ [])
    ∙ ap (node field h.KeyValueProp)
    (tidied_key x (bytes_eq x (codes "__proto__")) (h.Ident 1 ident.0 ident.1 role ∷ [])
    ∙ ap (λ l. key_in_object x ++ l) (tidied_name 1 ident role [] occurs))
tidied_object false field x ident role occurs = tidied_name field ident role [] occurs

tidied_place : (around : Around) (change : Change) (field : ℕ) (x : Text) (ctxt : ℕ) (role : Role) →
    is_occurrence role ≡ true → is_in_no_specifier around ≡ true →
    tidied (in_its_place around (Some change) field x ctxt role)
    ≡ in_its_place around (Some change) field x 0 role
tidied_place Anywhere change field x ctxt role occurs free = tidied_name field change.ident role [] occurs
tidied_place InObject change field x ctxt role occurs free =
    tidied_object change.is_spelled_out field x change.ident role occurs
tidied_place InSpecifier change field x ctxt role occurs free = cc

tidied_binding : (change : Change) (field : ℕ) (x : Text) (ctxt : ℕ) (role : Role) (more : List Item) →
    is_occurrence role ≡ true →
    tidied (binding (Some change) field x ctxt role ++ more) ≡ binding (Some change) field x 0 role ++ tidied more
tidied_binding change field x ctxt role more occurs =
    ap (λ l. h.Open field h.BindingIdent ∷ l) (tidied_name 0 change.ident role (h.Close ∷ more) occurs)

tidied_pattern : (change : Change) (x : Text) (ctxt : ℕ) (role : Role) (made : List Item) →
    is_occurrence role ≡ true →
    tidied (pattern_in_its_place (Some change) x ctxt role made)
    ≡ pattern_in_its_place (Some change) x 0 role (tidied made)
tidied_pattern change x ctxt role [] occurs = tidied_binding change 1 x ctxt role [] occurs
tidied_pattern change x ctxt role (first ∷ more) occurs =
    tidied-node 1 h.AssignPat (binding (Some change) 0 x ctxt role ++ first ∷ more)
    ∙ ap (node 1 h.AssignPat) (tidied_binding change 0 x ctxt role (first ∷ more) occurs)

tidied_short : (c : Bool) (change : Change) (field : ℕ) (x : Text) (ctxt : ℕ) (role : Role) (made : List Item) →
    is_occurrence role ≡ true →
    tidied (spelled c change field x ctxt role made) ≡ spelled c change field x 0 role (tidied made)
tidied_short true change field x ctxt role made occurs =
    tidied-node field h.KeyValuePatProp (plain_key x ++ pattern_in_its_place (Some change) x ctxt role made)
    ∙ ap (λ l. node field h.KeyValuePatProp (plain_key x ++ l)) (tidied_pattern change x ctxt role made occurs)
tidied_short false change field x ctxt role made occurs =
    tidied-node field h.AssignPatProp (binding (Some change) 0 x ctxt role ++ made)
    ∙ ap (node field h.AssignPatProp) (tidied_binding change 0 x ctxt role made occurs)

-- Parts.

pub record Bared (around : Around) (work : Work) (meta : Option Meant) (notes : List Note)
    (before made : List Item) (rest : Work) : Type 0 where
  pub bare : List Item
  pub left : List Note
  pub bares : Bares meta notes before bare left
  pub edits : (more : List Change) →
      Edits around (changes_to (idents_among bare) (idents_among made) ++ more) bare (tidied made) more
  pub long : length (idents_among bare) ≡ length (idents_among made)
  pub agree : Agree rest.steps left
  pub spell : AllSpell rest.steps
  pub same_meta : rest.meta ≡ work.meta

joined : {around : Around} {work between rest : Work} {meta : Option Meant} {notes : List Note}
    {first made_first second made_second : List Item} →
    (one : Bared around work meta notes first made_first between) →
    Bared around between meta one.left second made_second rest →
    Bared around work meta notes (first ++ second) (made_first ++ made_second) rest
joined {around = around} {made_first = made_first} {made_second = made_second} one two = record {
  bare = one.bare ++ two.bare;
  left = two.left;
  bares = b.Joined one.bares two.bares;
  edits = λ more.
      subst
      (λ changes. Edits around changes (one.bare ++ two.bare) (tidied (made_first ++ made_second)) more)
      (sym
      (ap (λ changes. changes ++ more)
      (ap₂ changes_to (names_of-append one.bare two.bare) (names_of-append made_first made_second)
      ∙ changes_joined (idents_among one.bare) (idents_among made_first) (idents_among two.bare)
      (idents_among made_second) one.long)
      ∙ append_assoc (changes_to (idents_among one.bare) (idents_among made_first))
      (changes_to (idents_among two.bare) (idents_among made_second)) more))
      (subst
      (λ list.
      Edits around
      (changes_to (idents_among one.bare) (idents_among made_first)
      ++ (changes_to (idents_among two.bare) (idents_among made_second) ++ more))
      (one.bare ++ two.bare) list more)
      (sym (tidied-append made_first made_second))
      (e.Joined
      (one.edits (changes_to (idents_among two.bare) (idents_among made_second) ++ more))
      (two.edits more)));
  long =
      ap length (names_of-append one.bare two.bare)
      ∙ length-append (idents_among one.bare) (idents_among two.bare)
      ∙ ap₂ (λ m n. m + n) one.long two.long
      ∙ sym (length-append (idents_among made_first) (idents_among made_second))
      ∙ sym (ap length (names_of-append made_first made_second));
  agree = two.agree;
  spell = two.spell;
  same_meta = two.same_meta ∙ one.same_meta;
}

-- a node, from what is in it
in_node : {around inner : Around} {work rest : Work} {meta : Option Meant} {notes : List Note} (field : ℕ)
    (head new : Head) {inside made : List Item} → (one : Bared inner work meta notes inside made rest) →
    cleared_head new ≡ cleared_head head →
    is_plain (cleared_head head) one.bare ≡ true → inner ≡ around_in (cleared_head head) one.bare →
    Bares meta notes (node field head inside) (node field (cleared_head head) one.bare) one.left →
    Bared around work meta notes (node field head inside) (node field new made) rest
in_node {around = around} {inner = inner} field head new {inside = inside} {made = made} one heads plain there bares = record {
  bare = node field (cleared_head head) one.bare;
  left = one.left;
  bares = bares;
  edits = λ more.
      subst
      (λ changes.
      Edits around (changes ++ more) (node field (cleared_head head) one.bare) (tidied (node field new made)) more)
      (sym (ap₂ changes_to (node_names field (cleared_head head) one.bare) (node_names field new made)))
      (subst
      (λ list.
      Edits around (changes_to (idents_among one.bare) (idents_among made) ++ more)
      (node field (cleared_head head) one.bare) list more)
      (sym (tidied-node field new made ∙ ap (λ k. node field k (tidied made)) heads))
      (e.Inside field (cleared_head head) plain
      (subst
      (λ a.
      Edits a (changes_to (idents_among one.bare) (idents_among made) ++ more) one.bare (tidied made) more)
      there (one.edits more))));
  long =
      ap length (node_names field (cleared_head head) one.bare)
      ∙ one.long
      ∙ sym (ap length (node_names field new made));
  agree = one.agree;
  spell = one.spell;
  same_meta = one.same_meta;
}

-- a name
named : (around : Around) {work : Work} {meta : Option Meant} {notes : List Note} (field : ℕ) (x : Text)
    (ctxt : ℕ) (role : Role) (step : Step) → is_occurrence role ≡ true → is_in_no_specifier around ≡ true →
    TakesStep work x step → AllSpell work.steps → First work.steps notes step →
    Bared around work meta notes (h.Ident field x ctxt role ∷ [])
    (in_its_place around (Some (change_at x step)) field x ctxt role) (after work)
named around {work = work} {meta = meta} {notes = notes} field x ctxt role step occurs free takes spell first = record {
  bare = h.Ident field x 0 role ∷ [];
  left = first.behind;
  bares =
      subst (λ its. Bares meta its (h.Ident field x ctxt role ∷ []) (h.Ident field x 0 role ∷ []) first.behind)
      (sym first.notes_are) (b.Name field x ctxt role occurs);
  edits = λ more.
      subst
      (λ changes.
      Edits around (changes ++ more) (h.Ident field x 0 role ∷ [])
      (tidied (in_its_place around (Some (change_at x step)) field x ctxt role)) more)
      (sym
      (ap₂ changes_to (name_names field x 0 role [] occurs)
      (name_made_names around field x ctxt role (change_at x step) occurs free)))
      (subst
      (λ list. Edits around (change_to (x, 0) step.ident ∷ more) (h.Ident field x 0 role ∷ []) list more)
      (ap (λ change. in_its_place around (Some change) field x 0 role)
      (same_change x step (spells_first work.steps step spell takes.is))
      ∙ sym (tidied_place around (change_at x step) field x ctxt role occurs free))
      (e.Name around {changes = change_to (x, 0) step.ident ∷ more} field x 0 role occurs));
  long =
      ap length (name_names field x 0 role [] occurs)
      ∙ sym (ap length (name_made_names around field x ctxt role (change_at x step) occurs free));
  agree = first.rest;
  spell = spells_rest work.steps spell;
  same_meta = refl;
}

-- a shorthand property of a pattern
short : {around : Around} {work rest : Work} {meta : Option Meant} {notes : List Note} (field : ℕ) (x : Text)
    (ctxt : ℕ) (role : Role) (step : Step) {default made : List Item} → is_occurrence role ≡ true →
    TakesStep work x step → AllSpell work.steps → (first : First work.steps notes step) →
    Bared Anywhere (after work) meta first.behind default made rest →
    Bared around work meta notes (node field h.AssignPatProp (binding None 0 x ctxt role ++ default))
    (shorthand_in_its_place (Some (change_at x step)) field x ctxt role made) rest
short {around = around} {work = work} {meta = meta} field x ctxt role step {default = default} {made = made} occurs takes spell first one = record {
  bare = node field h.AssignPatProp (binding None 0 x 0 role ++ one.bare);
  left = one.left;
  bares =
      subst
      (λ its.
      Bares meta its (node field h.AssignPatProp (binding None 0 x ctxt role ++ default))
      (node field h.AssignPatProp (binding None 0 x 0 role ++ one.bare)) one.left)
      (sym first.notes_are) (b.Shorthand field x ctxt role occurs one.bares);
  edits = λ more.
      subst
      (λ changes.
      Edits around (changes ++ more) (node field h.AssignPatProp (binding None 0 x 0 role ++ one.bare))
      (tidied (shorthand_in_its_place (Some (change_at x step)) field x ctxt role made)) more)
      (sym
      (ap₂ changes_to (short_names field x 0 role one.bare occurs)
      (spelled_names (is_spelled_out_by step.spelling step.ident.0 x) (change_at x step) field x ctxt role made
      occurs)))
      (subst
      (λ list.
      Edits around
      (change_to (x, 0) step.ident ∷ (changes_to (idents_among one.bare) (idents_among made) ++ more))
      (node field h.AssignPatProp (binding None 0 x 0 role ++ one.bare)) list more)
      (ap (λ change. shorthand_in_its_place (Some change) field x 0 role (tidied made))
      (same_change x step (spells_first work.steps step spell takes.is))
      ∙ sym
      (tidied_short (is_spelled_out_by step.spelling step.ident.0 x) (change_at x step) field x ctxt role made
      occurs))
      (e.Shorthand {changes = change_to (x, 0) step.ident ∷ (changes_to (idents_among one.bare) (idents_among made) ++ more)}
      field x 0 role occurs (one.edits more)));
  long =
      ap length (short_names field x 0 role one.bare occurs)
      ∙ ap suc one.long
      ∙ sym
      (ap length
      (spelled_names (is_spelled_out_by step.spelling step.ident.0 x) (change_at x step) field x ctxt role made
      occurs));
  agree = one.agree;
  spell = one.spell;
  same_meta = one.same_meta;
}

-- what a name stands for
of_reads : {work : Work} {meta : Option Meant} {notes : List Note} (field : ℕ) (name : Ident)
    (inside : List Item) (found : ReadsFound (upcoming work) inside name) → AllSpell work.steps →
    First work.steps notes found.step →
    Bared Anywhere work meta notes (node field h.MemberExpr inside) (reference field name) (after work)
of_reads {work = work} {meta = meta} {notes = notes} field name inside found spell first = record {
  bare = h.Ident field [] 0 r.Reference ∷ [];
  left = first.behind;
  bares =
      subst (λ its. Bares meta its (node field h.MemberExpr inside) (h.Ident field [] 0 r.Reference ∷ []) first.behind)
      (sym first.notes_are)
      (subst
      (λ whole.
      Bares meta (record { meant = first.note.meant; whole = whole } ∷ first.behind)
      (node field h.MemberExpr inside) (h.Ident field [] 0 r.Reference ∷ []) first.behind)
      (sym found.whole ∙ first.whole) (b.OfReads field found.count inside found.reads));
  edits = λ more. e.Name Anywhere {changes = change_to ([], 0) (name.0, name.1) ∷ more} field [] 0 r.Reference refl;
  long = refl;
  agree = first.rest;
  spell = spells_rest work.steps spell;
  same_meta = refl;
}

of_call : {around : Around} {work : Work} {meta : Option Meant} {notes : List Note} (field : ℕ) (name : Ident)
    (inside : List Item) (found : CallFound (upcoming work) inside name) → AllSpell work.steps →
    First work.steps notes found.step →
    Bared around work meta notes (node field h.CallExpr inside) (node field h.CallExpr (reference 0 name)) (after work)
of_call {work = work} {meta = meta} {notes = notes} field name inside found spell first = record {
  bare = node field h.CallExpr (h.Ident 0 [] 0 r.Reference ∷ []);
  left = first.behind;
  bares =
      subst
      (λ its.
      Bares meta its (node field h.CallExpr inside) (node field h.CallExpr (h.Ident 0 [] 0 r.Reference ∷ []))
      first.behind)
      (sym first.notes_are)
      (subst
      (λ whole.
      Bares meta (record { meant = first.note.meant; whole = whole } ∷ first.behind)
      (node field h.CallExpr inside) (node field h.CallExpr (h.Ident 0 [] 0 r.Reference ∷ [])) first.behind)
      (sym found.whole ∙ first.whole) (b.OfCall field inside found.calls));
  edits = λ more.
      e.Inside field h.CallExpr refl
      (e.Name Anywhere {changes = change_to ([], 0) (name.0, name.1) ∷ more} 0 [] 0 r.Reference refl);
  long = refl;
  agree = first.rest;
  spell = spells_rest work.steps spell;
  same_meta = refl;
}

of_meta : {work : Work} (meta : Option Meant) {notes : List Note} (field : ℕ) (kind : MetaPropKind)
    (name : Ident) → Agree work.steps notes → AllSpell work.steps → AgreeOnMeta work.meta meta →
    name_for_meta work.meta kind ≡ Some name →
    Bared Anywhere work meta notes (node field (h.MetaPropExpr kind) []) (reference field name) work
of_meta {work = work} None field kind name agree spell on_meta found =
    absurd (no_meta work.meta kind name on_meta found)
of_meta (Some meant) {notes = notes} field p.ImportMeta name agree spell on_meta found = record {
  bare = h.Ident field [] 0 r.Reference ∷ [];
  left = notes;
  bares = b.OfMeta field meant refl;
  edits = λ more. e.Name Anywhere {changes = change_to ([], 0) (name.0, name.1) ∷ more} field [] 0 r.Reference refl;
  long = refl;
  agree = agree;
  spell = spell;
  same_meta = refl;
}
of_meta (Some meant) field p.NewTarget name agree spell on_meta found = cc

-- a node whose first stays a member expression
kept_node : {around : Around} {work between rest : Work} {meta : Option Meant} {notes : List Note} (field : ℕ)
    (head : Head) (first : ℕ) {inside made more made_more : List Item} → keeps_first head first ≡ true →
    (front : Bared Anywhere work meta notes inside made between) →
    Bared Anywhere between meta front.left more made_more rest →
    Bared around work meta notes (node field head (node first h.MemberExpr inside ++ more))
    (node field head (node first h.MemberExpr made ++ made_more)) rest
kept_node {around = around} {meta = meta} field head first {inside = inside} {made = made} {more = more} {made_more = made_more} keeps front back =
    record {
      bare = node field (cleared_head head) (node first h.MemberExpr front.bare ++ back.bare);
      left = back.left;
      bares = b.Kept field head first keeps front.bares back.bares;
      edits = λ more.
          subst
          (λ changes.
          Edits around (changes ++ more)
          (node field (cleared_head head) (node first h.MemberExpr front.bare ++ back.bare))
          (tidied (node field head (node first h.MemberExpr made ++ made_more))) more)
          (sym
          (ap₂ changes_to
          (kept_names field (cleared_head head) first front.bare back.bare)
          (kept_names field head first made made_more)
          ∙ changes_joined (idents_among front.bare) (idents_among made) (idents_among back.bare)
          (idents_among made_more) front.long))
          (subst
          (λ changes.
          Edits around changes
          (node field (cleared_head head) (node first h.MemberExpr front.bare ++ back.bare))
          (tidied (node field head (node first h.MemberExpr made ++ made_more))) more)
          (sym
          (append_assoc (changes_to (idents_among front.bare) (idents_among made))
          (changes_to (idents_among back.bare) (idents_among made_more)) more))
          (subst
          (λ list.
          Edits around
          (changes_to (idents_among front.bare) (idents_among made)
          ++ (changes_to (idents_among back.bare) (idents_among made_more) ++ more))
          (node field (cleared_head head) (node first h.MemberExpr front.bare ++ back.bare)) list more)
          (sym
          (tidied-node field head (node first h.MemberExpr made ++ made_more)
          ∙ ap (node field (cleared_head head))
          (tidied-append (node first h.MemberExpr made) made_more
          ∙ ap (λ l. l ++ tidied made_more) (tidied-node first h.MemberExpr made))))
          (e.Inside field (cleared_head head)
          (kept_plain head first (node first h.MemberExpr front.bare ++ back.bare) keeps)
          (subst
          (λ a.
          Edits a
          (changes_to (idents_among front.bare) (idents_among made)
          ++ (changes_to (idents_among back.bare) (idents_among made_more) ++ more))
          (node first h.MemberExpr front.bare ++ back.bare)
          (node first h.MemberExpr (tidied made) ++ tidied made_more) more)
          (sym (kept_around head first (node first h.MemberExpr front.bare ++ back.bare) keeps))
          (e.Joined
          (e.Inside first h.MemberExpr refl
          (front.edits (changes_to (idents_among back.bare) (idents_among made_more) ++ more)))
          (back.edits more))))));
      long =
          ap length (kept_names field (cleared_head head) first front.bare back.bare)
          ∙ length-append (idents_among front.bare) (idents_among back.bare)
          ∙ ap₂ (λ m n. m + n) front.long back.long
          ∙ sym (length-append (idents_among made) (idents_among made_more))
          ∙ sym (ap length (kept_names field head first made made_more));
      agree = back.agree;
      spell = back.spell;
      same_meta = back.same_meta ∙ front.same_meta;
    }

-- Main

pub bared : {around : Around} {work rest : Work} {before made : List Item} →
    Rewrites around work before made rest → AreOwn before → (meta : Option Meant) (notes : List Note) →
    Agree work.steps notes → AllSpell work.steps → AgreeOnMeta work.meta meta →
    Bared around work meta notes before made rest
bared s.Nothing own meta notes agree spell on_meta =
    record { bare = []; left = notes; bares = b.Nothing; edits = λ more. e.Nothing; long = refl; agree = agree; spell = spell; same_meta = refl }
bared (s.Joined {first = first} {second = second} one two) own meta notes agree spell on_meta =
    let parts = own_parts first second own in
    let front = bared one parts.0 meta notes agree spell on_meta in
    joined front
    (bared two parts.1 meta front.left front.agree front.spell
    (subst (λ it. AgreeOnMeta it meta) (sym front.same_meta) on_meta))
bared (s.Hole field) own meta notes agree spell on_meta =
    record { bare = h.Hole field ∷ []; left = notes; bares = b.Hole field; edits = λ more. e.Hole field; long = refl; agree = agree; spell = spell; same_meta = refl }
bared (s.Word field x ctxt r.Word plain) own meta notes agree spell on_meta = cc
bared (s.Word field x ctxt r.Binding plain) own meta notes agree spell on_meta = cc
bared (s.Word field x ctxt r.Reference plain) own meta notes agree spell on_meta = cc
bared (s.Name around {work = work} field x ctxt role step occurs free takes) own meta notes agree spell on_meta =
    named around field x ctxt role step occurs free takes spell
    (first_of work.steps notes step agree takes.is)
bared (s.Inside {work = work} field head {inside = inside} it_stays one) own meta notes agree spell on_meta =
    let parts = own_inside field head inside own in
    let within = bared one parts.1 meta notes agree spell on_meta in
    in_node field head head within refl (own_plain work head inside within.bare it_stays parts.0)
    (own_around head inside within.bare parts.0)
    (b.Inside field head (still_stays work meta notes agree on_meta head inside it_stays) within.bares)
bared (s.Declaration {work = work} field kind its {inside = inside} one) own meta notes agree spell on_meta =
    let parts = own_inside field (h.VarDecl kind its) inside own in
    let within = bared one parts.1 meta notes agree spell on_meta in
    in_node field (h.VarDecl kind its) (h.VarDecl kind (kept_notes work.clears_notes its)) within refl refl refl
    (b.Inside field (h.VarDecl kind its) refl within.bares)
bared (s.Kept {work = work} field head first {inside = inside} {made = made} {more = more} {made_more = made_more} keeps one two) own
    meta notes agree spell on_meta =
    let whole = own_inside field head (node first h.MemberExpr inside ++ more) own in
    let parts = own_parts (node first h.MemberExpr inside) more whole.1 in
    let front = bared one (own_inside first h.MemberExpr inside parts.0).1 meta notes agree spell on_meta in
    let back =
    bared two parts.1 meta front.left front.agree front.spell
    (subst (λ it. AgreeOnMeta it meta) (sym front.same_meta) on_meta) in
    kept_node field head first keeps front back
bared (s.Shorthand {work = work} field x ctxt role step {default = default} occurs takes one) own meta notes agree
    spell on_meta =
    let first = first_of work.steps notes step agree takes.is in
    let parts =
    own_parts (binding None 0 x ctxt role) default
    (own_inside field h.AssignPatProp (binding None 0 x ctxt role ++ default) own).1 in
    short field x ctxt role step occurs takes spell first
    (bared one parts.1 meta first.behind first.rest (spells_rest work.steps spell) on_meta)
bared (s.OfReads {work = work} field name inside found) own meta notes agree spell on_meta =
    let reads = reads_found (upcoming work) inside name found in
    of_reads field name inside reads spell (first_of work.steps notes reads.step agree reads.is)
bared (s.OfCall {work = work} field name inside found) own meta notes agree spell on_meta =
    let calls = call_found (upcoming work) inside name found in
    of_call field name inside calls spell (first_of work.steps notes calls.step agree calls.is)
bared (s.OfMeta field kind name found) own meta notes agree spell on_meta =
    of_meta meta field kind name agree spell on_meta found

-- All of a part.

-- with each step and note belonging to one of its occurrences
pub record BaredWhole (work : Work) (meta : Option Meant) (notes : List Note) (before made : List Item) : Type 0 where
  pub bare : List Item
  pub bares : Bares meta notes before bare []
  pub edits : Edits Anywhere (changes_to (idents_among bare) (idents_among made)) bare (tidied made) []
  pub long : length (idents_among bare) ≡ length (idents_among made)

becomes_bared : {work rest : Work} {before made : List Item} → Becomes Anywhere work before made rest →
    AreOwn before → Cover work.steps before → (meta : Option Meant) (notes : List Note) →
    Agree work.steps notes → AllSpell work.steps → AgreeOnMeta work.meta meta →
    BaredWhole work meta notes before made
becomes_bared {work = work} {rest = rest} {before = before} {made = made} one own cover meta notes agree spell on_meta =
    let its = fits one refl own work.steps [] (sym (append-nil work.steps)) cover in
    let all = bared its.by own meta notes agree spell on_meta in
    let over : all.left ≡ [] = none_left rest.steps all.left all.agree its.left in
    record {
      bare = all.bare;
      bares = subst (λ left. Bares meta notes before all.bare left) over all.bares;
      edits =
          subst (λ changes. Edits Anywhere changes all.bare (tidied made) [])
          (append-nil (changes_to (idents_among all.bare) (idents_among made))) (all.edits []);
      long = all.long;
    }

-- What an item states.

pub record BaredStated (work : Work) (meta : Option Meant) (notes : List Note) (item made : List Item) : Type 0 where
  pub bare : List Item
  pub bares : BaresStated meta notes item bare []
  pub edits : Edits Anywhere (changes_to (idents_among bare) (idents_among made)) bare (tidied made) []

default_around : (head : Head) (inside : List Item) → is_default_head head ≡ true →
    around_in (declaration_head head) inside ≡ Anywhere
default_around h.FnExpr inside is = refl
default_around h.ClassExpr inside is = refl
default_around _ inside is = cc

default_plain : (head : Head) (inside : List Item) → is_default_head head ≡ true →
    is_plain (declaration_head head) inside ≡ true
default_plain h.FnExpr inside is = refl
default_plain h.ClassExpr inside is = refl
default_plain _ inside is = cc

default_cleared : (head : Head) → is_default_head head ≡ true →
    cleared_head (declaration_head head) ≡ declaration_head head
default_cleared h.FnExpr is = refl
default_cleared h.ClassExpr is = refl
default_cleared _ is = cc

-- a declaration with what stands in it
in_declaration : (head : Head) (names others : List Item) (olds news : List Ident) (bare made : List Item) →
    is_default_head head ≡ true →
    ((more : List Change) → Edits Anywhere (changes_to olds news ++ more) names others more) →
    tidied others ≡ others →
    Edits Anywhere (changes_to (idents_among bare) (idents_among made)) bare (tidied made) [] →
    Edits Anywhere (changes_to olds news ++ changes_to (idents_among bare) (idents_among made))
    (node 0 (declaration_head head) (names ++ bare))
    (tidied (node 0 (declaration_head head) (others ++ made))) []
in_declaration head names others olds news bare made is first tidy one =
    subst
    (λ list.
    Edits Anywhere (changes_to olds news ++ changes_to (idents_among bare) (idents_among made))
    (node 0 (declaration_head head) (names ++ bare)) list [])
    (sym
    (tidied-node 0 (declaration_head head) (others ++ made)
    ∙ ap (λ k. node 0 k (tidied (others ++ made))) (default_cleared head is)
    ∙ ap (node 0 (declaration_head head))
    (tidied-append others made ∙ ap (λ l. l ++ tidied made) tidy)))
    (e.Inside 0 (declaration_head head) (default_plain head (names ++ bare) is)
    (subst
    (λ a.
    Edits a (changes_to olds news ++ changes_to (idents_among bare) (idents_among made)) (names ++ bare)
    (others ++ tidied made) [])
    (sym (default_around head (names ++ bare) is))
    (e.Joined (first (changes_to (idents_among bare) (idents_among made))) one)))

pub states_bared : {work : Work} {name : Ident} {item made : List Item} → StatesList work name item made →
    AreOwn item → Cover work.steps item → (meta : Option Meant) (notes : List Note) →
    Agree work.steps notes → AllSpell work.steps → AgreeOnMeta work.meta meta →
    BaredStated work meta notes item made
states_bared (t.StatementStates field head part itself one) own cover meta notes agree spell on_meta =
    let its = becomes_bared one own cover meta notes agree spell on_meta in
    record { bare = its.bare; bares = b.Itself field head part itself its.bares; edits = its.edits }
states_bared {work = work} (t.DeclarationStates field part one) own cover meta notes agree spell on_meta =
    let its =
    becomes_bared one (own_inside field h.ExportDecl part own).1
    (subst (λ names. AllZip KeepsSymbol work.steps names) (node_names field h.ExportDecl part) cover) meta notes agree
    spell on_meta in
    record { bare = its.bare; bares = b.Declared field part its.bares; edits = its.edits }
states_bared {work = work} {name = name} (t.ValueStates field first more {value = value} one) own cover meta notes agree
    spell on_meta =
    let part_own = (own_inside field h.ExportDefaultExpr (first ∷ more) own).1 in
    let its =
    becomes_bared one
    (ap (λ c. c && list_all is_own_item more) (moved_own 1 first) ∙ part_own)
    (subst (λ names. AllZip KeepsSymbol work.steps names)
    (node_names field h.ExportDefaultExpr (first ∷ more) ∙ sym (moved_names 1 first more)) cover)
    meta notes agree spell on_meta in
    let binding_bare : List Item = node 0 h.BindingIdent (h.Ident 0 default_name 0 r.Binding ∷ []) in
    let binding_made : List Item = node 0 h.BindingIdent (h.Ident 0 name.0 name.1 r.Binding ∷ []) in
    record {
      bare = constant_declared (default_name, 0) its.bare;
      bares = b.Value field (first ∷ more) its.bares;
      edits =
          subst
          (λ changes.
          Edits Anywhere changes (constant_declared (default_name, 0) its.bare)
          (tidied (constant_declared name value)) [])
          (sym
          (ap₂ changes_to
          (node_names 0 (h.VarDecl Const no_notes) (node 1 h.VarDeclarator (binding_bare ++ its.bare))
          ∙ node_names 1 h.VarDeclarator (binding_bare ++ its.bare))
          (node_names 0 (h.VarDecl Const no_notes) (node 1 h.VarDeclarator (binding_made ++ value))
          ∙ node_names 1 h.VarDeclarator (binding_made ++ value))))
          (subst
          (λ list.
          Edits Anywhere
          (change_to (default_name, 0) (name.0, name.1)
          ∷ changes_to (idents_among its.bare) (idents_among value))
          (constant_declared (default_name, 0) its.bare) list [])
          (sym
          (tidied-node 0 (h.VarDecl Const no_notes) (node 1 h.VarDeclarator (binding_made ++ value))
          ∙ ap (node 0 (h.VarDecl Const no_notes))
          (tidied-node 1 h.VarDeclarator (binding_made ++ value)
          ∙ ap (node 1 h.VarDeclarator) (tidied-append binding_made value))))
          (e.Inside 0 (h.VarDecl Const no_notes) refl
          (e.Inside 1 h.VarDeclarator refl
          (e.Joined
          (e.Inside 0 h.BindingIdent refl
          (e.Name Anywhere
          {changes = change_to (default_name, 0) (name.0, name.1) ∷ changes_to (idents_among its.bare) (idents_among value)}
          0 default_name 0 r.Binding refl))
          its.edits))));
    }
states_bared {work = work} (t.OwnStates field inner name_field x ctxt role head body {made = made} is one) own cover meta notes
    agree spell on_meta =
    let parts = default_parts work.steps field inner head (h.Ident name_field x ctxt role ∷ body) own cover in
    let its = becomes_bared one parts.0 parts.1 meta notes agree spell on_meta in
    record {
      bare = node 0 (declaration_head head) its.bare;
      bares = b.Named field inner head name_field x ctxt role body is its.bares;
      edits =
          subst
          (λ changes.
          Edits Anywhere changes (node 0 (declaration_head head) its.bare)
          (tidied (node 0 (declaration_head head) made)) [])
          (sym
          (ap₂ changes_to (node_names 0 (declaration_head head) its.bare)
          (node_names 0 (declaration_head head) made)))
          (in_declaration head [] [] [] [] its.bare made is (λ more. e.Nothing) refl its.edits);
    }
states_bared {work = work} {name = name}
    (t.DefaultStates field inner first_field head first more {made = made} is one) own cover meta notes agree spell
    on_meta =
    let parts = default_parts work.steps field inner head (h.Open first_field first ∷ more) own cover in
    let its = becomes_bared one parts.0 parts.1 meta notes agree spell on_meta in
    record {
      bare = node 0 (declaration_head head) (h.Ident 0 default_name 0 r.Binding ∷ its.bare);
      bares = b.Nameless field inner head first_field first more is its.bares;
      edits =
          subst
          (λ changes.
          Edits Anywhere changes
          (node 0 (declaration_head head) (h.Ident 0 default_name 0 r.Binding ∷ its.bare))
          (tidied (node 0 (declaration_head head) (h.Ident 0 name.0 name.1 r.Binding ∷ made))) [])
          (sym
          (ap₂ changes_to
          (node_names 0 (declaration_head head) (h.Ident 0 default_name 0 r.Binding ∷ its.bare))
          (node_names 0 (declaration_head head) (h.Ident 0 name.0 name.1 r.Binding ∷ made))))
          (in_declaration head (h.Ident 0 default_name 0 r.Binding ∷ [])
          (h.Ident 0 name.0 name.1 r.Binding ∷ []) ((default_name, 0) ∷ []) ((name.0, name.1) ∷ []) its.bare made is
          (λ more.
          e.Name Anywhere {changes = change_to (default_name, 0) (name.0, name.1) ∷ more} 0 default_name 0 r.Binding
          refl)
          refl its.edits);
    }
