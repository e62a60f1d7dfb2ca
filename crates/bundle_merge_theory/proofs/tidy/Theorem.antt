-- Theorem of this folder (`joined-tidied`): what a walk that clears notes makes of a statement, or
-- of what the hook answered, is tidy, and so are the items of a bundle and the bundle.
-- Used by folder `finished`.
use Rattle.std.proofs.Common.{◌≡◌, ℕ, Bool, true, false, List, [], ◌∷◌, ◌++◌, Option, None, bytes_eq, codes, refl, ap, sym, ◌∙◌, suc, Some, subst, arith}
use Rattle.std.specs.Prelude.{if◌then◌else◌, Contains}
use Rattle.std.proofs.lemmas.Bool.{false≢true, true≢false}
use Rattle.std.specs.List.{AllZip, AllByRecursion}
use Rattle.bundle_syntax.specs.declared.kind.ExportMetadata.{ExportMetadata}
use Rattle.bundle_syntax.specs.declared.kind.VarDeclKind.TheVariants.{Const}
use Rattle.bundle_syntax.specs.declared.piece.Role.{Role}
use Rattle.bundle_syntax.specs.Item as h
use Rattle.bundle_syntax.specs.Item.{Item, Head}
use Rattle.bundle_syntax.specs.declared.piece.Role.TheVariants as r
use Rattle.bundle_rules.specs.Nodes.{Text}
use Rattle.bundle_rules.specs.Idents.{Ident}
use Rattle.bundle_rules.specs.Cleared.{cleared_head, tidied}
use Rattle.bundle_rules.specs.Rebuilds.{Change, spells_out, plain_key, key_in_object}
use Rattle.bundle_rules.specs.Statements.{no_notes, moved_to, declaration_head, Element, own_statements}
use Rattle.bundle_rules.specs.Bundle as due
use Rattle.bundle_rules.specs.Bundle.{Cause, AsModule, Hooks, IsDue}
use Rattle.bundle_rules.specs.Entries.{Named, Whole}
use Rattle.bundle_rules.specs.Linking.{Namespace, External, CommonJs}
use Rattle.bundle_rules.specs.Meaning.{Of, Load, Meta, Helper}
use Rattle.bundle_rules.specs.Program.{Program, tree_of}
use Rattle.bundle_rules.specs.Scopes.{ModuleKind, Cjs}
use Rattle.bundle_rules.specs.Sorting.{flat}
use Rattle.bundle_tree_places.specs.Edits.{Around, Anywhere, InObject, InSpecifier, node, is_occurrence, in_its_place, binding, renamed, pattern_in_its_place, shorthand_in_its_place}
use Rattle.bundle_tree_rebuild.specs.Work.{Work, next}
use Rattle.bundle_tree_rebuild.specs.Becomes as b
use Rattle.bundle_tree_rebuild.specs.Becomes.{Becomes, stays, keeps_first, kept_notes, named}
use Rattle.bundle_scope_names.specs.fit.Sorts.{AModule}
use Rattle.bundle_scope_names.specs.fit.Fits.{IsFit}
use Rattle.bundle_merge_theory.specs.noted.Stated.{is_default_head}
use Rattle.bundle_merge_theory.specs.walked.Stated as t
use Rattle.bundle_merge_theory.specs.walked.Stated.{StatesList}
use Rattle.bundle_merge_theory.specs.joined.Joined.{joined_items}
use Rattle.bundle_merge_theory.specs.tidy.Tidy.{is_noted_head, AreTidy, AreClean}
use Rattle.bundle_merge_theory.proofs.tidy.Forms.{tidy_both, tidy_node, tidied_so, tidy_flat, tidy_imports, tidy_import, tidy_bare, tidy_star, tidy_exports, tidy_constant, tidy_namespace, tidy_loads, tidy_load, tidy_helper}
use Rattle.bundle_merge_theory.proofs.tidy.Cleans.{clean_parts, are_clean, clean_stated, clean_before}
use Rattle.bundle_merge_theory.proofs.finished.Twice.{tidied-renamed as tidy_renamed}
use Rattle.bundle_merge_theory.specs.made.Given.{HookAnswer, AreFresh, BundleContexts, HelperParameter, HelperVariable, TopOf, ident_of_label}
use Rattle.bundle_merge_theory.specs.made.Made
use Rattle.bundle_merge_theory.specs.made.Made.{IsStatedAs, IsAnsweredAs, named_idents, linked_idents, IsMade}
use Rattle.bundle_merge_theory.specs.made.Alone.{AreTreesSound}
use Rattle.bundle_merge_theory.proofs.told.Tops.{top_fit}

-- ---- walked

-- Names.

tidy_key : (x : Text) → AreTidy (key_in_object x)
tidy_key x = by (bytes_eq x (codes "__proto__"))
  where
    by : (is : Bool) →
        AreTidy (if is then h.Open 0 h.ComputedPropName ∷ h.Open 0 (h.Str x None) ∷ h.Close ∷ h.Close ∷ [] else plain_key x)
    by true = (refl, (refl, (refl, (refl, tt))))
    by false = (refl, (refl, tt))

tidy_place : (around : Around) (change : Option Change) (field : ℕ) (x : Text) (ctxt : ℕ)
    (role : Role) → is_occurrence role ≡ true →
    AreTidy (in_its_place around change field x ctxt role)
tidy_place Anywhere change field x ctxt role occurs =
    (tidy_renamed change field x ctxt role occurs, tt)
tidy_place InObject change field x ctxt role occurs = by (spells_out change)
  where
    by : (is : Bool) →
        AreTidy
        (if is then node field h.KeyValueProp (key_in_object x ++ renamed change 1 x ctxt role ∷ []) else renamed change field x ctxt role ∷ [])
    by true =
        tidy_node field h.KeyValueProp (key_in_object x ++ renamed change 1 x ctxt role ∷ []) refl
        (tidy_both (key_in_object x) (renamed change 1 x ctxt role ∷ []) (tidy_key x)
        (tidy_renamed change 1 x ctxt role occurs, tt))
    by false = (tidy_renamed change field x ctxt role occurs, tt)
tidy_place InSpecifier change field x ctxt role occurs = by (spells_out change)
  where
    by : (is : Bool) →
        AreTidy
        (if is then renamed change field x ctxt role ∷ h.Ident 1 x 0 r.Word ∷ [] else renamed change field x ctxt role ∷ [])
    by true = (tidy_renamed change field x ctxt role occurs, (refl, tt))
    by false = (tidy_renamed change field x ctxt role occurs, tt)

tidy_binding : (change : Option Change) (field : ℕ) (x : Text) (ctxt : ℕ) (role : Role) →
    is_occurrence role ≡ true → AreTidy (binding change field x ctxt role)
tidy_binding change field x ctxt role occurs =
    (refl, (tidy_renamed change 0 x ctxt role occurs, (refl, tt)))

tidy_pattern : (change : Option Change) (x : Text) (ctxt : ℕ) (role : Role)
    (default : List Item) → is_occurrence role ≡ true → AreTidy default →
    AreTidy (pattern_in_its_place change x ctxt role default)
tidy_pattern change x ctxt role [] occurs are = tidy_binding change 1 x ctxt role occurs
tidy_pattern change x ctxt role (y ∷ ys) occurs are =
    tidy_node 1 h.AssignPat (binding change 0 x ctxt role ++ y ∷ ys) refl
    (tidy_both (binding change 0 x ctxt role) (y ∷ ys) (tidy_binding change 0 x ctxt role occurs)
    are)

tidy_short : (change : Option Change) (field : ℕ) (x : Text) (ctxt : ℕ) (role : Role)
    (default : List Item) → is_occurrence role ≡ true → AreTidy default →
    AreTidy (shorthand_in_its_place change field x ctxt role default)
tidy_short change field x ctxt role default occurs are = by (spells_out change)
  where
    by : (is : Bool) →
        AreTidy
        (if is then node field h.KeyValuePatProp (plain_key x ++ pattern_in_its_place change x ctxt role default) else node field h.AssignPatProp (binding change 0 x ctxt role ++ default))
    by true =
        tidy_node field h.KeyValuePatProp
        (plain_key x ++ pattern_in_its_place change x ctxt role default) refl
        (tidy_both (plain_key x) (pattern_in_its_place change x ctxt role default)
        (refl, (refl, tt)) (tidy_pattern change x ctxt role default occurs are))
    by false =
        tidy_node field h.AssignPatProp (binding change 0 x ctxt role ++ default) refl
        (tidy_both (binding change 0 x ctxt role) default
        (tidy_binding change 0 x ctxt role occurs) are)

-- Nodes.

head_kept : (work : Work) (head : Head) (inside : List Item) → is_noted_head head ≡ false →
    stays work head inside ≡ true → cleared_head head ≡ head
head_kept work (h.ImportDecl meta) inside plain is = absurd (true≢false plain)
head_kept work (h.NamedExport meta) inside plain is = absurd (true≢false plain)
head_kept work (h.ExportAll meta) inside plain is = absurd (true≢false plain)
head_kept work (h.VarDecl kind meta) inside plain is = absurd (false≢true is)
head_kept work _ inside plain is = refl

first_kept : (head : Head) (field : ℕ) → keeps_first head field ≡ true → cleared_head head ≡ head
first_kept (h.ImportDecl meta) field is = absurd (false≢true is)
first_kept (h.NamedExport meta) field is = absurd (false≢true is)
first_kept (h.ExportAll meta) field is = absurd (false≢true is)
first_kept (h.VarDecl kind meta) field is = absurd (false≢true is)
first_kept _ field is = refl

notes_gone : (clears : Bool) (notes : ExportMetadata) → clears ≡ true →
    kept_notes clears notes ≡ no_notes
notes_gone true notes is = refl
notes_gone false notes is = absurd (false≢true is)

-- it goes on to clear notes
pub on_clearing : {around : Around} {work rest : Work} {before made : List Item} →
    Becomes around work before made rest → rest.clears_notes ≡ work.clears_notes
on_clearing b.Nothing = refl
on_clearing (b.Joined one two) = on_clearing two ∙ on_clearing one
on_clearing (b.Hole field) = refl
on_clearing (b.Word field x ctxt role plain) = refl
on_clearing (b.Name around field x ctxt role occurs) = refl
on_clearing (b.Inside field head is one) = on_clearing one
on_clearing (b.Declaration field kind notes one) = on_clearing one
on_clearing (b.Kept field head first is one two) = on_clearing two ∙ on_clearing one
on_clearing (b.Shorthand field x ctxt role occurs one) = on_clearing one
on_clearing (b.OfReads field name inside found) = refl
on_clearing (b.OfCall field name inside found) = refl
on_clearing (b.OfMeta field kind name found) = refl

-- WHAT A WALK MAKES
pub walked_tidy : {around : Around} {work rest : Work} {before made : List Item} →
    Becomes around work before made rest → work.clears_notes ≡ true → AreClean before →
    AreTidy made
walked_tidy b.Nothing clears clean = tt
walked_tidy
    (b.Joined {first = first} {made_first = made_first} {second = second}
    {made_second = made_second} one two)
    clears clean =
    let parts = clean_parts first second clean in
    tidy_both made_first made_second (walked_tidy one clears parts.0)
    (walked_tidy two (on_clearing one ∙ clears) parts.1)
walked_tidy (b.Hole field) clears clean = (refl, tt)
walked_tidy (b.Word field x ctxt role plain) clears clean =
    absurd (false≢true (sym plain ∙ clean.0))
walked_tidy (b.Name around {work = work} field x ctxt role occurs) clears clean =
    tidy_place around (next work x) field x ctxt role occurs
walked_tidy (b.Inside {work = work} field head {inside = inside} {made = made} is one) clears clean =
    tidy_node field head made (head_kept work head inside clean.0 is)
    (walked_tidy one clears (clean_parts inside (h.Close ∷ []) clean.1).0)
walked_tidy
    (b.Declaration {work = work} field kind notes {inside = inside} {made = made} one) clears clean =
    tidy_node field (h.VarDecl kind (kept_notes work.clears_notes notes)) made
    (ap (h.VarDecl kind) (sym (notes_gone work.clears_notes notes clears)))
    (walked_tidy one clears (clean_parts inside (h.Close ∷ []) clean.1).0)
walked_tidy
    (b.Kept field head first {inside = inside} {made = made} {more = more} {made_more = made_more}
    is one two)
    clears clean =
    let parts =
    clean_parts (node first h.MemberExpr inside) more
    (clean_parts (node first h.MemberExpr inside ++ more) (h.Close ∷ []) clean.1).0 in
    tidy_node field head (node first h.MemberExpr made ++ made_more) (first_kept head first is)
    (tidy_both (node first h.MemberExpr made) made_more
    (tidy_node first h.MemberExpr made refl
    (walked_tidy one clears (clean_parts inside (h.Close ∷ []) parts.0.1).0))
    (walked_tidy two (on_clearing one ∙ clears) parts.1))
walked_tidy
    (b.Shorthand {work = work} field x ctxt role {default = default} {made = made} occurs one)
    clears clean =
    let parts =
    clean_parts (binding None 0 x ctxt role) default
    (clean_parts (binding None 0 x ctxt role ++ default) (h.Close ∷ []) clean.1).0 in
    tidy_short (next work x) field x ctxt role made occurs (walked_tidy one clears parts.1)
walked_tidy (b.OfReads field name inside found) clears clean = (refl, tt)
walked_tidy (b.OfCall field name inside found) clears clean = (refl, (refl, (refl, tt)))
walked_tidy (b.OfMeta field kind name found) clears clean = (refl, tt)

-- What is stated.

clean_moved : (field : ℕ) (first : Item) (more : List Item) → AreClean (first ∷ more) →
    AreClean (moved_to field first ∷ more)
clean_moved field (h.Open old head) more clean = clean
clean_moved field (h.Ident old x ctxt role) more clean = clean
clean_moved field (h.Hole old) more clean = clean
clean_moved field h.Close more clean = clean

declared_kept : (head : Head) → is_default_head head ≡ true →
    cleared_head (declaration_head head) ≡ declaration_head head
declared_kept h.FnExpr is = refl
declared_kept h.ClassExpr is = refl
declared_kept _ is = absurd (false≢true is)

-- WHAT A STATEMENT BECOMES
pub stated_tidy : {work : Work} {default : Ident} {given made : List Item} →
    StatesList work default given made → work.clears_notes ≡ true → AreClean given → AreTidy made
stated_tidy (t.StatementStates field head inside itself one) clears clean =
    walked_tidy one clears clean
stated_tidy (t.DeclarationStates field inside one) clears clean =
    walked_tidy one clears (clean_parts inside (h.Close ∷ []) clean.1).0
stated_tidy {default = default} (t.ValueStates field first more {value = value} one) clears clean =
    let in_it = (clean_parts (first ∷ more) (h.Close ∷ []) clean.1).0 in
    tidy_node 0 (h.VarDecl Const no_notes)
    (node 1 h.VarDeclarator (node 0 h.BindingIdent (named 0 default r.Binding) ++ value)) refl
    (tidy_node 1 h.VarDeclarator (node 0 h.BindingIdent (named 0 default r.Binding) ++ value) refl
    (refl, (refl, (refl, walked_tidy one clears (clean_moved 1 first more in_it)))))
stated_tidy (t.OwnStates field inner name_field x ctxt role head body {made = made} is one) clears
    clean =
    let own : List Item = h.Ident name_field x ctxt role ∷ body in
    let in_it = (clean_parts (node inner head own) (h.Close ∷ []) clean.1).0 in
    tidy_node 0 (declaration_head head) made (declared_kept head is)
    (walked_tidy one clears (clean_parts own (h.Close ∷ []) in_it.1).0)
stated_tidy {default = default}
    (t.DefaultStates field inner first_field head first more {made = made} is one) clears clean =
    let own : List Item = h.Open first_field first ∷ more in
    let in_it = (clean_parts (node inner head own) (h.Close ∷ []) clean.1).0 in
    tidy_node 0 (declaration_head head) (named 0 default r.Binding ++ made)
    (declared_kept head is)
    (refl, walked_tidy one clears (clean_parts own (h.Close ∷ []) in_it.1).0)

-- ---- tidy

-- a statement
statement_tidy : (p : Program) (list : List ℕ) (context : BundleContexts) (m : ℕ) (kind : ModuleKind)
    (statement : List Element) (made : List Item) → IsFit AModule 0 (tree_of p m) →
    IsStatedAs p list context m kind statement made → AreTidy made
statement_tidy p list context m kind statement made fit its =
    stated_tidy its.by refl
    (clean_before its.given
    (subst AreClean (sym its.is_given)
    (clean_stated (top_fit fit its.top its.there) its.top.start statement its.states)))

statements_tidy : (p : Program) (list : List ℕ) (context : BundleContexts) (m : ℕ) (kind : ModuleKind)
    (statements : List (List Element)) (bodies : List (List Item)) →
    IsFit AModule 0 (tree_of p m) →
    AllZip (λ statement made. IsStatedAs p list context m kind statement made) statements bodies →
    AllByRecursion AreTidy bodies
statements_tidy p list context m kind [] [] fit are = tt
statements_tidy p list context m kind [] (body ∷ bodies) fit are = absurd are
statements_tidy p list context m kind (statement ∷ statements) [] fit are = absurd are
statements_tidy p list context m kind (statement ∷ statements) (body ∷ bodies) fit are = (
  statement_tidy p list context m kind statement body fit are.0,
  statements_tidy p list context m kind statements bodies fit are.1,
)

-- what the hook answered
answer_tidy : (p : Program) (hooks : Hooks) (context : BundleContexts) (m : ℕ)
    (properties made : List Item) → IsAnsweredAs p hooks context m properties made → AreTidy made
answer_tidy p hooks context m properties made its =
    walked_tidy its.by refl
    (clean_before its.given (subst AreClean (sym its.is_given) (are_clean its.fit refl)))

module _ (p : Program) (hooks : Hooks) (list : List ℕ) (context : BundleContexts)
    (answers : ℕ → Option HookAnswer) (sound : AreTreesSound p list) (are_fresh : AreFresh answers) where
  -- EACH ITEM
  pub made_tidy : (cause : Cause) (item : List Item) → IsDue p AsModule cause →
      IsMade p hooks list context answers cause item → AreTidy item
  made_tidy cause item (due.own {m = m} reached es within) (Made.own statement at its) =
      statement_tidy p list context m _ statement item (sound.fit.each m reached) its
  made_tidy cause item its_due (Made.imports_names {s = s} names are is) =
      subst AreTidy (sym is)
      (tidy_imports s (named_idents p list context (λ x. External s (Named x)) names))
  made_tidy cause item its_due (Made.imports_whole {s = s} is) =
      subst AreTidy (sym is) (tidy_import s (ident_of_label p list context (Of (External s Whole))))
  made_tidy cause item its_due (Made.imports_nothing {s = s} is) =
      subst AreTidy (sym is) (tidy_bare s)
  made_tidy cause item its_due (Made.helps is) =
      subst AreTidy (sym is)
      (tidy_helper (ident_of_label p list context Helper) (codes "fn", context HelperParameter)
      (codes "module", context HelperVariable))
  made_tidy cause item (due.defines {c = c} reached common) (Made.defines bodies are is) =
      subst AreTidy (sym is)
      (tidy_load (ident_of_label p list context (Load c)) (ident_of_label p list context Helper)
      (codes "module", context (TopOf c)) (codes "exports", context (TopOf c)) (flat bodies)
      (tidy_flat bodies
      (statements_tidy p list context c Cjs (own_statements (tree_of p c)) bodies
      (sound.fit.each c reached) are)))
  made_tidy cause item its_due (Made.loads {m = m} {c = c} whole names are only all is) =
      subst AreTidy (sym is)
      (tidy_loads (ident_of_label p list context (Load c))
      (if whole then Some (ident_of_label p list context (Of (CommonJs m c Whole))) else None)
      (named_idents p list context (λ x. CommonJs m c (Named x)) names))
  made_tidy cause item its_due (Made.holds_meta {m = m} properties body answered its is) =
      subst AreTidy (sym is)
      (tidy_constant (ident_of_label p list context (Meta m)) (node 1 h.ObjectLit body)
      (tidy_node 1 h.ObjectLit body refl (answer_tidy p hooks context m properties body its)))
  made_tidy cause item its_due (Made.holds_written {m = m} its answered written) =
      absurd (are_fresh m its.ctxt its.meta its.properties answered)
  made_tidy cause item its_due (Made.holds_namespace {d = d} pairs are is) =
      subst AreTidy (sym is)
      (tidy_namespace (ident_of_label p list context (Of (Namespace d)))
      (linked_idents p list context pairs))
  made_tidy cause item its_due (Made.stars {s = s} is) = subst AreTidy (sym is) (tidy_star s)
  made_tidy cause item its_due (Made.exports pairs are is) =
      subst AreTidy (sym is) (tidy_exports (linked_idents p list context pairs))

  all_tidy : (plan : List Cause) (items : List (List Item)) →
      ((cause : Cause) → Contains plan cause → IsDue p AsModule cause) →
      AllZip (IsMade p hooks list context answers) plan items → AllByRecursion AreTidy items
  all_tidy [] [] its_due are = tt
  all_tidy [] (item ∷ items) its_due are = absurd are
  all_tidy (cause ∷ plan) [] its_due are = absurd are
  all_tidy (cause ∷ plan) (item ∷ items) its_due are = (
    made_tidy cause item (its_due cause (0, omega arith, refl)) are.0,
    all_tidy plan items
        (λ other there. its_due other
        (suc there.0, (let l = there.1 in omega (arith, l)), there.2)) are.1,
  )

  -- AND ALL TOGETHER
  pub joined-tidied : (plan : List Cause) (items : List (List Item)) →
      ((cause : Cause) → Contains plan cause → IsDue p AsModule cause) →
      AllZip (IsMade p hooks list context answers) plan items →
      tidied (joined_items items) ≡ joined_items items
  joined-tidied plan items its_due are =
      tidied_so (joined_items items)
      (tidy_node 0 h.Module (flat items) refl (tidy_flat items (all_tidy plan items its_due are)))
