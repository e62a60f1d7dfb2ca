-- With steps that suit a statement of a CommonJS module the walk over it keeps the symbols of its
-- names, and makes calls of load functions of its literal calls.
use Rattle.std.proofs.Common.{◌≡◌, ℕ, true, false, List, [], ◌∷◌, ◌++◌, Option, Some, None, drop, refl, ap, sym, ◌∙◌, subst, append_assoc}
use Rattle.std.specs.Prelude.{slice_get, is_none, if◌then◌else◌}
use Rattle.std.proofs.lemmas.Bool.{false≢true}
use Rattle.std.proofs.lemmas.Option.{none-some, same_Some}
use Rattle.bundle_syntax.specs.declared.piece.Role.{Role}
use Rattle.bundle_syntax.specs.declared.piece.Role.TheVariants as r
use Rattle.bundle_syntax.specs.declared.kind.MetaPropKind.TheVariants as p
use Rattle.bundle_syntax.specs.Item as h
use Rattle.bundle_syntax.specs.Item.{Item, Head}
use Rattle.bundle_tree_places.specs.Edits.{Around, node, is_occurrence, binding}
use Rattle.bundle_tree_rebuild.specs.declared.rewrite.Whole.TheVariants as w
use Rattle.bundle_tree_rebuild.specs.Work.{Step, Work, upcoming, after}
use Rattle.bundle_tree_rebuild.specs.Becomes.{stays, is_literal_call, name_for_member, name_for_call, name_of_call, name_for_meta, keeps_first}
use Rattle.bundle_rules.specs.Nodes.{Text}
use Rattle.bundle_rules.specs.Idents.{Ident}
use Rattle.bundle_rules.specs.Callable.{is_module_head}
use Rattle.bundle_merge_theory.specs.noted.Nodes as n
use Rattle.bundle_merge_theory.specs.noted.Nodes.{AreNodesInTurn}
use Rattle.bundle_merge_theory.proofs.noted.Shapes.{IsReads, base, read, join, one_node, same_nodes, reads_inside, nodes_in_reads, literal_call, literal_call_nodes}
use Rattle.bundle_merge_theory.proofs.noted.Names.{node_ahead}
use Rattle.bundle_merge_theory.specs.walked.Rewrites.{Rewrites}
use Rattle.bundle_merge_theory.specs.walked.Rewrites as e
use Rattle.bundle_merge_theory.proofs.walked.Keeping.{reads_found, call_found}
use Rattle.bundle_merge_theory.specs.loaded.Walk.{IsLiteral, KeepsIt, IsFine}
use Rattle.bundle_merge_theory.specs.function.Suited.{Suits, nothing, begun, ended, empty, word, named, called}

-- what a walk goes over is whole nodes
pub rewritten_nodes : {around : Around} {work rest : Work} {before made : List Item} →
    Rewrites around work before made rest → AreNodesInTurn before
rewritten_nodes e.Nothing = n.nothing
rewritten_nodes (e.Joined one two) = join (rewritten_nodes one) (rewritten_nodes two)
rewritten_nodes (e.Hole field) = n.hole n.nothing
rewritten_nodes (e.Word field x ctxt role plain) = n.name n.nothing
rewritten_nodes (e.Name around field x ctxt role step occurs free takes) = n.name n.nothing
rewritten_nodes (e.Inside field head it_stays one) = one_node field head (rewritten_nodes one)
rewritten_nodes (e.Declaration field kind notes one) = one_node field _ (rewritten_nodes one)
rewritten_nodes (e.Kept field head first keeps one two) =
    one_node field head
    (join (one_node first h.MemberExpr (rewritten_nodes one)) (rewritten_nodes two))
rewritten_nodes (e.Shorthand field x ctxt role step occurs takes one) =
    one_node field h.AssignPatProp
    (join (one_node 0 h.BindingIdent (n.name n.nothing)) (rewritten_nodes one))
rewritten_nodes (e.OfReads {work = work} field name inside found) =
    let reads = reads_found (upcoming work) inside name found in
    one_node field h.MemberExpr
    (nodes_in_reads (reads_inside field reads.count inside reads.reads).reads field inside refl)
rewritten_nodes (e.OfCall {work = work} field name inside found) =
    one_node field h.CallExpr
    (literal_call_nodes (literal_call inside (call_found (upcoming work) inside name found).calls))
rewritten_nodes (e.OfMeta field kind name found) = one_node field _ n.nothing

module _ (L : Ident → Type 0) where
  -- what begins
  record IsCall (rest : List Item) (steps : List Step) : Type 0 where
    callee : ℕ
    ctxt : ℕ
    outer : ℕ
    inner : ℕ
    x : Text
    value : Text
    raw : Option Text
    behind : List Item
    rest_is : rest ≡ h.Ident callee x ctxt r.Reference ∷ h.Open outer (h.ExprOrSpread false)
        ∷ h.Open inner (h.Str value raw) ∷ h.Close ∷ h.Close ∷ h.Close ∷ behind
    step : Step
    more : List Step
    steps_are : steps ≡ step ∷ more
    load : L step.ident
    whole : step.whole ≡ w.Call
    left : Suits L behind more

  data Begun (head : Head) (rest : List Item) (steps : List Step) : Type 0 where
    opened : is_module_head head ≡ false → Suits L rest steps → Begun head rest steps
    literal_call_there : head ≡ h.CallExpr → IsCall rest steps → Begun head rest steps

  begun_of : {items : List Item} {steps : List Step} → Suits L items steps → (field : ℕ)
      (head : Head) (rest : List Item) → items ≡ h.Open field head ∷ rest → Begun head rest steps
  begun_of nothing field head rest is = cc
  begun_of (begun {field = f} {head = hd} {rest = more} {steps =
      steps} own left) field head rest is =
      let same : hd ≡ head = cc in
      let all : more ≡ rest = cc in
      opened (subst (λ it. is_module_head it ≡ false) same own)
      (subst (λ l. Suits L l steps) all left)
  begun_of (ended left) field head rest is = cc
  begun_of (empty left) field head rest is = cc
  begun_of (word plain left) field head rest is = cc
  begun_of (named occurs keeps alone left) field head rest is = cc
  begun_of (called {field = f} {callee = callee} {ctxt = ctxt} {outer = outer} {inner = inner} {x =
      x} {value = value} {raw = raw} {rest = more} {step = step} {steps =
      steps} load whole left) field head rest is =
      let same : head ≡ h.CallExpr = cc in
      let all : rest ≡ h.Ident callee x ctxt r.Reference ∷ h.Open outer (h.ExprOrSpread false)
      ∷ h.Open inner (h.Str value raw) ∷ h.Close ∷ h.Close ∷ h.Close ∷ more = cc in
      literal_call_there same
      (record {
        callee = callee;
        ctxt = ctxt;
        outer = outer;
        inner = inner;
        x = x;
        value = value;
        raw = raw;
        behind = more;
        rest_is = all;
        step = step;
        more = steps;
        steps_are = refl;
        load = load;
        whole = whole;
        left = left;
      })

  -- what ends
  ended_of : {items : List Item} {steps : List Step} → Suits L items steps → (rest : List Item) →
      items ≡ h.Close ∷ rest → Suits L rest steps
  ended_of nothing rest is = cc
  ended_of (begun own left) rest is = cc
  ended_of {steps = steps} (ended {rest = more} left) rest is =
      let all : more ≡ rest = cc in subst (λ l. Suits L l steps) all left
  ended_of (empty left) rest is = cc
  ended_of (word plain left) rest is = cc
  ended_of (named occurs keeps alone left) rest is = cc
  ended_of (called load whole left) rest is = cc

  empty_of : {items : List Item} {steps : List Step} → Suits L items steps → (field : ℕ)
      (rest : List Item) → items ≡ h.Hole field ∷ rest → Suits L rest steps
  empty_of nothing field rest is = cc
  empty_of (begun own left) field rest is = cc
  empty_of (ended left) field rest is = cc
  empty_of {steps = steps} (empty {rest = more} left) field rest is =
      let all : more ≡ rest = cc in subst (λ l. Suits L l steps) all left
  empty_of (word plain left) field rest is = cc
  empty_of (named occurs keeps alone left) field rest is = cc
  empty_of (called load whole left) field rest is = cc

  -- an identifier
  record IsKept (x : Text) (rest : List Item) (steps : List Step) : Type 0 where
    step : Step
    more : List Step
    steps_are : steps ≡ step ∷ more
    keeps : KeepsIt step x
    alone : step.whole ≡ w.Alone
    left : Suits L rest more

  word_of : {items : List Item} {steps : List Step} → Suits L items steps → (field : ℕ) (x : Text)
      (ctxt : ℕ) (role : Role) (rest : List Item) → is_occurrence role ≡ false →
      items ≡ h.Ident field x ctxt role ∷ rest → Suits L rest steps
  word_of nothing field x ctxt role rest plain is = cc
  word_of (begun own left) field x ctxt role rest plain is = cc
  word_of (ended left) field x ctxt role rest plain is = cc
  word_of (empty left) field x ctxt role rest plain is = cc
  word_of {steps = steps} (word {rest = more} its left) field x ctxt role rest plain is =
      let all : more ≡ rest = cc in subst (λ l. Suits L l steps) all left
  word_of (named {role = other} occurs keeps alone left) field x ctxt role rest plain is =
      let same : other ≡ role = cc in
      absurd (false≢true (sym plain ∙ (ap is_occurrence (sym same) ∙ occurs)))
  word_of (called {callee = callee} load whole left) field x ctxt role rest plain is = cc

  name_of : {items : List Item} {steps : List Step} → Suits L items steps → (field : ℕ) (x : Text)
      (ctxt : ℕ) (role : Role) (rest : List Item) → is_occurrence role ≡ true →
      items ≡ h.Ident field x ctxt role ∷ rest → IsKept x rest steps
  name_of nothing field x ctxt role rest occurs is = cc
  name_of (begun own left) field x ctxt role rest occurs is = cc
  name_of (ended left) field x ctxt role rest occurs is = cc
  name_of (empty left) field x ctxt role rest occurs is = cc
  name_of (word {role = other} plain left) field x ctxt role rest occurs is =
      let same : other ≡ role = cc in
      absurd (false≢true (sym plain ∙ (ap is_occurrence same ∙ occurs)))
  name_of (named {x = y} {rest = more} {step = step} {steps =
      steps} its keeps alone left) field x ctxt role rest occurs is =
      let symbol : y ≡ x = cc in
      let all : more ≡ rest = cc in
      record {
        step = step;
        more = steps;
        steps_are = refl;
        keeps = subst (KeepsIt step) symbol keeps;
        alone = alone;
        left = subst (λ l. Suits L l steps) all left;
      }
  name_of (called load whole left) field x ctxt role rest occurs is = cc

  -- in a node that is no call
  in_other : (head : Head) {inside : List Item} {steps : List Step} → (head ≡ h.CallExpr → ⊥) →
      Begun head inside steps → (is_module_head head ≡ false) × Suits L inside steps
  in_other head other (opened own left) = (own, left)
  in_other head other (literal_call_there same its) = absurd (other same)

  -- the name of static reads stands for itself alone
  record IsAlone (steps : List Step) : Type 0 where
    step : Step
    more : List Step
    steps_are : steps ≡ step ∷ more
    alone : step.whole ≡ w.Alone

  reads_alone : {count : ℕ} {items : List Item} → IsReads count r.Reference items →
      (tail : List Item) (steps : List Step) → Suits L (items ++ tail) steps → IsAlone steps
  reads_alone (base {field = field} {ctxt = ctxt} {x = x}) tail steps suits =
      let kept = name_of suits field x ctxt r.Reference tail refl refl in
      record {
        step = kept.step;
        more = kept.more;
        steps_are = kept.steps_are;
        alone = kept.alone;
      }
  reads_alone (read {field = field} {object = object} second its it) tail steps suits =
      let list : (h.Open field h.MemberExpr ∷ (object ++ h.Open second
      (h.IdentName its) ∷ h.Close ∷ h.Close ∷ [])) ++ tail
      ≡ h.Open field h.MemberExpr ∷ (object ++ h.Open second
      (h.IdentName its) ∷ h.Close ∷ h.Close ∷ tail) =
      ap (λ l. h.Open field h.MemberExpr ∷ l)
      (append_assoc object (h.Open second (h.IdentName its) ∷ h.Close ∷ h.Close ∷ []) tail) in
      reads_alone it _ steps
      (in_other h.MemberExpr (λ same. cc) (begun_of suits field h.MemberExpr _ list)).1

  -- the next step
  first_is : (work : Work) (step first : Step) (steps more behind : List Step) →
      upcoming work ≡ Some step → work.steps ≡ steps ++ behind → steps ≡ first ∷ more →
      first ≡ step
  first_is work step first steps more behind is all steps_are =
      same_Some first step
      (sym (ap (λ l. slice_get l 0) (all ∙ ap (λ l. l ++ behind) steps_are)) ∙ is)

  -- behind it
  after_first : (work : Work) (first : Step) (steps more behind : List Step) →
      work.steps ≡ steps ++ behind → steps ≡ first ∷ more →
      (after work).steps ≡ more ++ behind
  after_first work first steps more behind all steps_are =
      ap (λ l. drop 1 l) (all ∙ ap (λ l. l ++ behind) steps_are)

  -- a literal call does not stay
  literal_inside : {inside : List Item} (tail : List Item) (steps : List Step) → AreNodesInTurn inside →
      (its : IsCall (inside ++ h.Close ∷ tail) steps) → is_literal_call inside ≡ true
  literal_inside tail steps nodes its =
      ap is_literal_call
      (same_nodes nodes
      (n.name {field = its.callee} {ctxt = its.ctxt} {sym = its.x} {role = r.Reference}
      (one_node its.outer (h.ExprOrSpread false) (one_node its.inner
      (h.Str its.value its.raw) n.nothing)))
      tail its.behind its.rest_is).0

  not_left : (work : Work) (steps behind : List Step) → work.steps ≡ steps ++ behind →
      (inside tail : List Item) → AreNodesInTurn inside → stays work h.CallExpr inside ≡ true →
      IsCall (inside ++ h.Close ∷ tail) steps → ⊥
  not_left work steps behind all inside tail nodes it_stays its =
      false≢true
      (ap is_none
      (sym
      (ap (λ o. name_for_call o inside)
      (ap (λ l. slice_get l 0) (all ∙ ap (λ l. l ++ behind) its.steps_are))
      ∙ (ap (λ whole. name_of_call its.step.ident whole inside) its.whole
      ∙ ap (λ b. if b then Some its.step.ident else None)
      (literal_inside tail steps nodes its))))
      ∙ it_stays)

  -- THE WALK
  pub record IsFineBefore {around : Around} {work rest : Work} {before made : List Item}
      (one : Rewrites around work before made rest) (tail : List Item) (behind : List Step) :
      Type 0 where
    pub fine : IsFine L one
    pub steps : List Step
    pub left : Suits L tail steps
    pub all : rest.steps ≡ steps ++ behind
    pub meta : rest.meta ≡ None

  keeps_other : (head : Head) (first : ℕ) → keeps_first head first ≡ true → head ≡ h.CallExpr → ⊥
  keeps_other head first is same =
      false≢true (ap (λ it. keeps_first it first) (sym same) ∙ is)

  -- in a node that stays
  in_node : {around : Around} {work rest : Work} {inside made : List Item} (head : Head)
      (one : Rewrites around work inside made rest) (tail : List Item) (steps behind : List Step) →
      work.steps ≡ steps ++ behind → stays work head inside ≡ true →
      Begun head (inside ++ h.Close ∷ tail) steps →
      (is_module_head head ≡ false) × Suits L (inside ++ h.Close ∷ tail) steps
  in_node head one tail steps behind all it_stays (opened own left) = (own, left)
  in_node {work = work} {inside = inside} head one tail steps behind all it_stays
      (literal_call_there same its) =
      absurd (not_left work steps behind all inside tail (rewritten_nodes one)
      (ap (λ it. stays work it inside) (sym same) ∙ it_stays) its)

  meta_none : (work : Work) → work.meta ≡ None → (kind : _) (name : Ident) →
      name_for_meta work.meta kind ≡ Some name → ⊥
  meta_none work none p.ImportMeta name is = none-some name (sym none ∙ is)
  meta_none work none p.NewTarget name is = none-some name is

  literal_of : (inside : List Item) → is_literal_call inside ≡ true → IsLiteral inside
  literal_of (h.Ident field x ctxt r.Reference ∷ h.Open outer (h.ExprOrSpread false) ∷ h.Open inner
      (h.Str value raw) ∷ h.Close ∷ h.Close ∷ []) is =
      record {
        callee = field;
        x = x;
        ctxt = ctxt;
        outer = outer;
        inner = inner;
        value = value;
        raw = raw;
        is = refl;
      }
  literal_of _ is = absurd (false≢true is)

  -- a literal call
  record IsLeft (name : Ident) (tail : List Item) (steps : List Step) : Type 0 where
    load : L name
    first : Step
    more : List Step
    steps_are : steps ≡ first ∷ more
    left : Suits L tail more

  in_call : (work : Work) (steps behind : List Step) → work.steps ≡ steps ++ behind →
      (name : Ident) (inside tail : List Item) →
      (found : name_for_call (upcoming work) inside ≡ Some name) →
      Begun h.CallExpr (inside ++ h.Close ∷ tail) steps → IsLeft name tail steps
  in_call work steps behind all name inside tail found (literal_call_there same its) =
      let calls = call_found (upcoming work) inside name found in
      let step_is =
      first_is work calls.step its.step steps its.more behind calls.is all its.steps_are in
      let both =
      same_nodes (literal_call_nodes (literal_call inside calls.calls))
      (n.name {field = its.callee} {ctxt = its.ctxt} {sym = its.x} {role = r.Reference}
      (one_node its.outer (h.ExprOrSpread false) (one_node its.inner
      (h.Str its.value its.raw) n.nothing)))
      tail its.behind its.rest_is in
      record {
        load = subst L (ap (λ (s : Step). s.ident) step_is ∙ calls.named) its.load;
        first = its.step;
        more = its.more;
        steps_are = its.steps_are;
        left = subst (λ l. Suits L l its.more) (sym both.1) its.left;
      }
  in_call work steps behind all name inside tail found (opened own left) =
      let calls = call_found (upcoming work) inside name found in
      let literal = literal_of inside calls.calls in
      let kept =
      name_of left literal.callee literal.x literal.ctxt r.Reference
      (h.Open literal.outer (h.ExprOrSpread false) ∷ h.Open literal.inner
      (h.Str literal.value literal.raw) ∷ h.Close ∷ h.Close ∷ h.Close ∷ tail)
      refl (ap (λ l. l ++ h.Close ∷ tail) literal.is) in
      let step_is =
      first_is work calls.step kept.step steps kept.more behind calls.is all kept.steps_are in
      let both : w.Alone ≡ w.Call = sym kept.alone ∙ (ap (λ
      (s : Step). s.whole) step_is ∙ calls.whole) in
      absurd cc

  -- reads
  in_reads : (work : Work) (steps behind : List Step) → work.steps ≡ steps ++ behind →
      (name : Ident) (field : ℕ) (inside tail : List Item) →
      name_for_member (upcoming work) inside ≡ Some name →
      Suits L (node field h.MemberExpr inside ++ tail) steps → ⊥
  in_reads work steps behind all name field inside tail found suits =
      let reads = reads_found (upcoming work) inside name found in
      let kept =
      reads_alone (reads_inside field reads.count inside reads.reads).reads tail steps suits in
      let step_is =
      first_is work reads.step kept.step steps kept.more behind reads.is all kept.steps_are in
      let both : w.Alone ≡ w.Reads reads.count =
      sym kept.alone ∙ (ap (λ (s : Step). s.whole) step_is ∙ reads.whole) in cc

  pub fine : {around : Around} {work rest : Work} {before made : List Item}
      (one : Rewrites around work before made rest) (tail : List Item)
      (steps behind : List Step) → work.steps ≡ steps ++ behind → work.meta ≡ None →
      Suits L (before ++ tail) steps → IsFineBefore one tail behind
  fine e.Nothing tail steps behind all none suits =
      record { fine = tt; steps = steps; left = suits; all = all; meta = none }
  fine (e.Joined {first = first} {second = second} one two) tail steps behind all none suits =
      let front =
      fine one (second ++ tail) steps behind all none
      (subst (λ l. Suits L l steps) (append_assoc first second tail) suits) in
      let back = fine two tail front.steps behind front.all front.meta front.left in
      record {
        fine = (front.fine, back.fine);
        steps = back.steps;
        left = back.left;
        all = back.all;
        meta = back.meta;
      }
  fine (e.Hole field) tail steps behind all none suits = record {
    fine = tt;
    steps = steps;
    left = empty_of suits field tail refl;
    all = all;
    meta = none;
  }
  fine (e.Word field x ctxt role plain) tail steps behind all none suits = record {
    fine = tt;
    steps = steps;
    left = word_of suits field x ctxt role tail plain refl;
    all = all;
    meta = none;
  }
  fine (e.Name around {work = work} field x ctxt role step occurs free takes) tail steps behind all
      none suits =
      let kept = name_of suits field x ctxt role tail occurs refl in
      let step_is =
      first_is work step kept.step steps kept.more behind takes.is all kept.steps_are in
      record {
        fine = subst (λ s. KeepsIt s x) step_is kept.keeps;
        steps = kept.more;
        left = kept.left;
        all = after_first work kept.step steps kept.more behind all kept.steps_are;
        meta = none;
      }
  fine (e.Inside field head {inside = inside} it_stays one) tail steps behind all none suits =
      let its =
      in_node head one tail steps behind all it_stays
      (begun_of suits field head (inside ++ h.Close ∷ tail) (node_ahead field head inside tail)) in
      let within = fine one (h.Close ∷ tail) steps behind all none its.1 in
      record {
        fine = (its.0, within.fine);
        steps = within.steps;
        left = ended_of within.left tail refl;
        all = within.all;
        meta = within.meta;
      }
  fine (e.Declaration field kind notes {inside = inside} one) tail steps behind all none suits =
      let its =
      in_other (h.VarDecl kind notes) (λ same. cc)
      (begun_of suits field (h.VarDecl kind notes) (inside ++ h.Close ∷ tail)
      (node_ahead field (h.VarDecl kind notes) inside tail)) in
      let within = fine one (h.Close ∷ tail) steps behind all none its.1 in
      record {
        fine = within.fine;
        steps = within.steps;
        left = ended_of within.left tail refl;
        all = within.all;
        meta = within.meta;
      }
  fine (e.Kept field head first {inside = inside} {more =
      more} keeps one two) tail steps behind all none suits =
      let its =
      in_other head (keeps_other head first keeps)
      (begun_of suits field head ((node first h.MemberExpr inside ++ more) ++ h.Close ∷ tail)
      (node_ahead field head (node first h.MemberExpr inside ++ more) tail)) in
      let list : (node first h.MemberExpr inside ++ more) ++ h.Close ∷ tail
      ≡ h.Open first h.MemberExpr ∷ (inside ++ h.Close ∷ (more ++ h.Close ∷ tail)) =
      append_assoc (node first h.MemberExpr inside) more (h.Close ∷ tail)
      ∙ node_ahead first h.MemberExpr inside (more ++ h.Close ∷ tail) in
      let member =
      in_other h.MemberExpr (λ same. cc)
      (begun_of its.1 first h.MemberExpr (inside ++ h.Close ∷ (more ++ h.Close ∷ tail)) list) in
      let front =
      fine one (h.Close ∷ (more ++ h.Close ∷ tail)) steps behind all none member.1 in
      let back =
      fine two (h.Close ∷ tail) front.steps behind front.all front.meta
      (ended_of front.left (more ++ h.Close ∷ tail) refl) in
      record {
        fine = (its.0, front.fine, back.fine);
        steps = back.steps;
        left = ended_of back.left tail refl;
        all = back.all;
        meta = back.meta;
      }
  fine (e.Shorthand {work = work} field x ctxt role step {default =
      default} occurs takes one) tail steps behind all none suits =
      let its =
      in_other h.AssignPatProp (λ same. cc)
      (begun_of suits field h.AssignPatProp
      ((binding None 0 x ctxt role ++ default) ++ h.Close ∷ tail)
      (node_ahead field h.AssignPatProp (binding None 0 x ctxt role ++ default) tail)) in
      let pattern =
      in_other h.BindingIdent (λ same. cc)
      (begun_of its.1 0 h.BindingIdent
      (h.Ident 0 x ctxt role ∷ h.Close ∷ (default ++ h.Close ∷ tail)) refl) in
      let kept = name_of pattern.1 0 x ctxt role (h.Close ∷
      (default ++ h.Close ∷ tail)) occurs refl in
      let step_is =
      first_is work step kept.step steps kept.more behind takes.is all kept.steps_are in
      let within =
      fine one (h.Close ∷ tail) kept.more behind
      (after_first work kept.step steps kept.more behind all kept.steps_are) none
      (ended_of kept.left (default ++ h.Close ∷ tail) refl) in
      record {
        fine = (subst (λ s. KeepsIt s x) step_is kept.keeps, within.fine);
        steps = within.steps;
        left = ended_of within.left tail refl;
        all = within.all;
        meta = within.meta;
      }
  fine (e.OfReads {work = work} field name inside found) tail steps behind all none suits =
      absurd (in_reads work steps behind all name field inside tail found suits)
  fine (e.OfCall {work = work} field name inside found) tail steps behind all none suits =
      let its =
      in_call work steps behind all name inside tail found
      (begun_of suits field h.CallExpr (inside ++ h.Close ∷ tail)
      (node_ahead field h.CallExpr inside tail)) in
      record {
        fine = (literal_of inside (call_found (upcoming work) inside name found).calls, its.load);
        steps = its.more;
        left = its.left;
        all = after_first work its.first steps its.more behind all its.steps_are;
        meta = none;
      }
  fine (e.OfMeta {work = work} field kind name found) tail steps behind all none suits =
      absurd (meta_none work none kind name found)
