-- Steps that are so for the names of a statement, one by one, suit it.
use Rattle.std.proofs.Common.{◌≡◌, ℕ, zero, suc, ◌+◌, ◌<◌, ◌⊎◌, inl, inr, true, false, List, [], ◌∷◌, ◌++◌, Option, Some, drop, length, refl, ap, sym, ◌∙◌, subst, arith}
use Rattle.std.specs.List.{AllZip}
use Rattle.std.proofs.lemmas.Bool.{false≢true}
use Rattle.bundle_syntax.specs.declared.piece.Role.{Role}
use Rattle.bundle_syntax.specs.declared.piece.Role.TheVariants as r
use Rattle.bundle_syntax.specs.Item as h
use Rattle.bundle_syntax.specs.Item.{Item, Head}
use Rattle.bundle_tree_places.specs.Edits.{is_occurrence}
use Rattle.bundle_tree_rebuild.specs.declared.rewrite.Whole.TheVariants as w
use Rattle.bundle_tree_rebuild.specs.Work.{Step}
use Rattle.bundle_tree_rebuild.specs.Becomes.{is_one_string}
use Rattle.bundle_rules.specs.Places.{Spot, Occurrence, past, occurrences_from}
use Rattle.bundle_rules.specs.Nodes.{Text}
use Rattle.bundle_rules.specs.Idents.{Ident}
use Rattle.bundle_rules.specs.Cleared.{cleared_head, cleared_item, cleared}
use Rattle.bundle_rules.specs.Entries.{required_at}
use Rattle.bundle_rules.specs.Bound.{is_free}
use Rattle.bundle_rules.specs.Program.{Program, tree_of}
use Rattle.bundle_link.proofs.NodePaths.{drop-next}
use Rattle.bundle_merge_theory.proofs.noted.Names.{occurrence_here}
use Rattle.bundle_merge_theory.proofs.noted.Replaces.{IsCallThere, required_there, linked_there}
use Rattle.bundle_merge_theory.specs.joined.Joined.{open_behind}
use Rattle.bundle_merge_theory.specs.loaded.Walk.{KeepsIt}
use Rattle.bundle_merge_theory.specs.made.Given.{BundleContexts}
use Rattle.bundle_merge_theory.specs.made.Steps.{IsCalled}
use Rattle.bundle_merge_theory.specs.function.Suited.{Suits, nothing, begun, ended, empty, word, named, called}
use Rattle.bundle_merge_theory.specs.function.Calls.{IsLoadName, StepFor, keeps_it, calls_it, HasNoModules, NoCall}

-- What an element was before its context and notes were cleared.

was_argument : (y : Item) (field : ℕ) → cleared_item y ≡ h.Open field (h.ExprOrSpread false) →
    y ≡ h.Open field (h.ExprOrSpread false)
was_argument (h.Open f (h.ImportDecl meta)) field is = cc
was_argument (h.Open f (h.NamedExport meta)) field is = cc
was_argument (h.Open f (h.ExportAll meta)) field is = cc
was_argument (h.Open f (h.VarDecl kind meta)) field is = cc
was_argument (h.Open f head) field is = is
was_argument (h.Ident f x ctxt role) field is = cc
was_argument (h.Hole f) field is = cc
was_argument h.Close field is = cc

was_string : (y : Item) (field : ℕ) (value : Text) (raw : Option Text) →
    cleared_item y ≡ h.Open field (h.Str value raw) → y ≡ h.Open field (h.Str value raw)
was_string (h.Open f (h.ImportDecl meta)) field value raw is = cc
was_string (h.Open f (h.NamedExport meta)) field value raw is = cc
was_string (h.Open f (h.ExportAll meta)) field value raw is = cc
was_string (h.Open f (h.VarDecl kind meta)) field value raw is = cc
was_string (h.Open f head) field value raw is = is
was_string (h.Ident f x ctxt role) field value raw is = cc
was_string (h.Hole f) field value raw is = cc
was_string h.Close field value raw is = cc

pub was_end : (y : Item) → cleared_item y ≡ h.Close → y ≡ h.Close
was_end (h.Open f head) is = cc
was_end (h.Ident f x ctxt role) is = cc
was_end (h.Hole f) is = cc
was_end h.Close is = refl

-- the first of what stands there, where a node is open
record IsPeeled (items tail : List Item) (x : Item) (behind : List Item) : Type 0 where
  first : Item
  rest : List Item
  is : items ≡ first ∷ rest
  was : cleared_item first ≡ x
  left : cleared rest ++ tail ≡ behind

peel : (depth : ℕ) (items tail : List Item) (x : Item) (behind : List Item) →
    open_behind (suc depth) items ≡ Some 0 → cleared items ++ tail ≡ x ∷ behind →
    IsPeeled items tail x behind
peel depth [] tail x behind open_is is = cc
peel depth (y ∷ items) tail x behind open_is is =
    record { first = y; rest = items; is = refl; was = cc; left = cc }

-- one string as an argument, and the end of the call
record IsString (depth : ℕ) (items tail behind : List Item) : Type 0 where
  outer : ℕ
  inner : ℕ
  value : Text
  raw : Option Text
  rest : List Item
  is : items ≡ h.Open outer (h.ExprOrSpread false) ∷ h.Open inner (h.Str value raw) ∷ h.Close
      ∷ h.Close ∷ h.Close ∷ rest
  left : cleared rest ++ tail ≡ behind
  closed : open_behind depth rest ≡ Some 0

string_there : (depth : ℕ) (items tail behind : List Item) (outer inner : ℕ) (value : Text)
    (raw : Option Text) → open_behind (suc depth) items ≡ Some 0 →
    cleared items ++ tail ≡ h.Open outer (h.ExprOrSpread false) ∷ h.Open inner (h.Str value raw)
    ∷ h.Close ∷ h.Close ∷ h.Close ∷ behind →
    IsString depth items tail behind
string_there depth items tail behind outer inner value raw open_is is =
    let one = peel depth items tail _ _ open_is is in
    let one_is : items ≡ h.Open outer (h.ExprOrSpread false) ∷ one.rest =
    one.is ∙ ap (λ y. y ∷ one.rest) (was_argument one.first outer one.was) in
    let one_open : open_behind (suc (suc depth)) one.rest ≡ Some 0 =
    ap (open_behind (suc depth)) (sym one_is) ∙ open_is in
    let two = peel (suc depth) one.rest tail _ _ one_open one.left in
    let two_is : one.rest ≡ h.Open inner (h.Str value raw) ∷ two.rest =
    two.is ∙ ap (λ y. y ∷ two.rest) (was_string two.first inner value raw two.was) in
    let two_open : open_behind (suc (suc (suc depth))) two.rest ≡ Some 0 =
    ap (open_behind (suc (suc depth))) (sym two_is) ∙ one_open in
    let three = peel (suc (suc depth)) two.rest tail _ _ two_open two.left in
    let three_is : two.rest ≡ h.Close ∷ three.rest =
    three.is ∙ ap (λ y. y ∷ three.rest) (was_end three.first three.was) in
    let three_open : open_behind (suc (suc depth)) three.rest ≡ Some 0 =
    ap (open_behind (suc (suc (suc depth)))) (sym three_is) ∙ two_open in
    let four = peel (suc depth) three.rest tail _ _ three_open three.left in
    let four_is : three.rest ≡ h.Close ∷ four.rest =
    four.is ∙ ap (λ y. y ∷ four.rest) (was_end four.first four.was) in
    let four_open : open_behind (suc depth) four.rest ≡ Some 0 =
    ap (open_behind (suc (suc depth))) (sym four_is) ∙ three_open in
    let five = peel depth four.rest tail _ _ four_open four.left in
    let five_is : four.rest ≡ h.Close ∷ five.rest =
    five.is ∙ ap (λ y. y ∷ five.rest) (was_end five.first five.was) in
    record {
      outer = outer;
      inner = inner;
      value = value;
      raw = raw;
      rest = five.rest;
      is =
          one_is
          ∙ ap (λ l. h.Open outer (h.ExprOrSpread false) ∷ l)
          (two_is
          ∙ ap (λ l. h.Open inner (h.Str value raw) ∷ l)
          (three_is ∙ ap (λ l. h.Close ∷ l) (four_is ∙ ap (λ l. h.Close ∷ l) five_is)));
      left = five.left;
      closed = ap (open_behind (suc depth)) (sym five_is) ∙ four_open;
    }

-- Literal calls.

-- what stands at a literal call
record IsLiteralThere (items : List Item) : Type 0 where
  field : ℕ
  callee : ℕ
  x : Text
  ctxt : ℕ
  role : Role
  outer : ℕ
  inner : ℕ
  value : Text
  raw : Option Text
  behind : List Item
  is : items ≡ h.Open field h.CallExpr ∷ h.Ident callee x ctxt role
      ∷ h.Open outer (h.ExprOrSpread false) ∷ h.Open inner (h.Str value raw) ∷ h.Close ∷ h.Close
      ∷ h.Close ∷ behind

literal_there : (items : List Item) (text : Text) → required_at items ≡ Some text →
    IsLiteralThere items
literal_there items text found =
    let its = required_there items text found in
    by its its.literal.arguments refl its.literal.one
  where
    by : (its : IsCallThere items) (arguments : List Item) → its.literal.arguments ≡ arguments →
        is_one_string its.literal.arguments ≡ true → IsLiteralThere items
    by its arguments same one = go arguments same (ap is_one_string (sym same) ∙ one)
      where
        go : (arguments : List Item) → its.literal.arguments ≡ arguments →
            is_one_string arguments ≡ true → IsLiteralThere items
        go (h.Open outer (h.ExprOrSpread false) ∷ h.Open inner
            (h.Str value raw) ∷ h.Close ∷ h.Close ∷ []) same is =
            record {
              field = its.field;
              callee = its.literal.field;
              x = its.literal.x;
              ctxt = its.literal.ctxt;
              role = its.role;
              outer = outer;
              inner = inner;
              value = value;
              raw = raw;
              behind = its.behind;
              is =
                  its.is
                  ∙ ap (λ l. (h.Open its.field h.CallExpr ∷ (l ++ h.Close ∷ [])) ++ its.behind)
                  (its.literal.is
                  ∙ ap
                  (λ l. h.Ident its.literal.field its.literal.x its.literal.ctxt its.role ∷ l)
                  same);
            }
        go _ same is = absurd (false≢true is)

module _ (p : Program) (list : List ℕ) (context : BundleContexts) (m : ℕ) where
  -- a literal call is called right before its name
  call_there : (c : ℕ) (o : Occurrence) (place : ℕ) (items : List Item) → IsCalled p m o c →
      o.place ≡ suc place → drop place (tree_of p m) ≡ items → IsLiteralThere items
  call_there c o place items its there is =
      let same : its.call.place ≡ place = let here = its.here in omega (arith, here, there) in
      literal_there items its.call.specifier
      (ap required_at (sym is)
      ∙ (ap (λ k. required_at (drop k (tree_of p m))) (sym same)
      ∙ linked_there p.settings (is_free (tree_of p m)) (tree_of p m) its.call its.linked))

  -- no call begins with this element
  no_call : (place : ℕ) (x : Item) (items : List Item) → drop place (tree_of p m) ≡ x ∷ items →
      ((field : ℕ) → x ≡ h.Open field h.CallExpr → ⊥) → (c : ℕ) (o : Occurrence) →
      o.place ≡ suc place → IsCalled p m o c → ⊥
  no_call place x items is other c o there its =
      let call = call_there c o place (x ∷ items) its there is in
      let first : x ≡ h.Open call.field h.CallExpr = same_first call.is in other call.field first
    where
      same_first : {a b : Item} {xs ys : List Item} → a ∷ xs ≡ b ∷ ys → a ≡ b
      same_first e = cc

  any_call : (place : ℕ) (items : List Item) →
      ((c : ℕ) (o : Occurrence) → o.place ≡ place → IsCalled p m o c → ⊥) → NoCall p m place items
  any_call place [] none = tt
  any_call place (h.Open field head ∷ rest) none = tt
  any_call place (h.Ident field x ctxt r.Word ∷ rest) none = tt
  any_call place (h.Ident field x ctxt r.Binding ∷ rest) none = none
  any_call place (h.Ident field x ctxt r.Reference ∷ rest) none = none
  any_call place (h.Hole field ∷ rest) none = tt
  any_call place (h.Close ∷ rest) none = tt

  abbrev pub Loads : Ident → Type 0
  Loads = IsLoadName p list context

  -- where the elements stand
  pub record Stand (n depth : ℕ) (s : Spot) (given tail : List Item)
      (steps : List Step) : Type 0 where
    pub small : length given < n
    pub there : drop s.place (tree_of p m) ≡ cleared given ++ tail
    pub closed : open_behind depth given ≡ Some 0
    pub modules : HasNoModules given
    pub first : NoCall p m s.place given
    pub each : AllZip (StepFor p list context m) (occurrences_from s (cleared given)) steps

  -- the next place
  next_there : (s : Spot) (x : Item) (rest : List Item) →
      drop s.place (tree_of p m) ≡ x ∷ rest → drop (s.place + 1) (tree_of p m) ≡ rest
  next_there s x rest is =
      let one : s.place + 1 ≡ suc s.place = omega arith in
      ap (λ k. drop k (tree_of p m)) one ∙ drop-next (tree_of p m) s.place x rest is

  next_call : (s : Spot) (x : Item) (items given : List Item) →
      drop s.place (tree_of p m) ≡ x ∷ items → ((field : ℕ) → x ≡ h.Open field h.CallExpr → ⊥) →
      NoCall p m (s.place + 1) given
  next_call s x items given is other =
      any_call (s.place + 1) given
      (λ c o here its. no_call s.place x items is other c o (omega (arith, here)) its)

  is_call_head : (head : Head) → (head ≡ h.CallExpr) ⊎ (cleared_head head ≡ h.CallExpr → ⊥)
  is_call_head h.CallExpr = inl refl
  is_call_head (h.ImportDecl meta) = inr (λ is. cc)
  is_call_head (h.NamedExport meta) = inr (λ is. cc)
  is_call_head (h.ExportAll meta) = inr (λ is. cc)
  is_call_head (h.VarDecl kind meta) = inr (λ is. cc)
  is_call_head _ = inr (λ is. cc)

  same_head : {f g : ℕ} {a b : Head} → h.Open f a ≡ h.Open g b → a ≡ b
  same_head e = cc

  -- what begins with a call
  abbrev AllSuit : ℕ → Type 0
  AllSuit n =
      (depth : ℕ) (s : Spot) (given tail : List Item) (steps : List Step) →
      Stand n depth s given tail steps → Suits Loads given steps

  call_plain : (n depth : ℕ) (s : Spot) (field : ℕ) (rest tail : List Item) (steps : List Step) →
      Stand (suc n) depth s (h.Open field h.CallExpr ∷ rest) tail steps →
      NoCall p m (s.place + 1) rest → AllSuit n →
      Suits Loads (h.Open field h.CallExpr ∷ rest) steps
  call_plain n depth s field rest tail steps it none ih =
      begun it.modules.0
      (ih (suc depth) (past s (h.Open field h.CallExpr)) rest tail steps
      (record {
        small = let l = it.small in omega (arith, l);
        there = next_there s (h.Open field h.CallExpr) (cleared rest ++ tail) it.there;
        closed = it.closed;
        modules = it.modules.1;
        first = none;
        each = it.each;
      }))

  -- a name that is kept right in a call
  call_kept : (n depth : ℕ) (s : Spot) (field callee ctxt : ℕ) (x : Text) (role : Role)
      (rest tail : List Item) (step : Step) (steps : List Step) →
      Stand (suc n) depth s (h.Open field h.CallExpr ∷ h.Ident callee x ctxt role ∷ rest) tail
      (step ∷ steps) → is_occurrence role ≡ true → KeepsIt step x → step.whole ≡ w.Alone →
      AllZip (StepFor p list context m)
      (occurrences_from
      (past (past s (h.Open field h.CallExpr)) (h.Ident callee x 0 role)) (cleared rest))
      steps → AllSuit n →
      Suits Loads (h.Open field h.CallExpr ∷ h.Ident callee x ctxt role ∷ rest) (step ∷ steps)
  call_kept n depth s field callee ctxt x role rest tail step steps it occurs keeps alone each ih =
      let inside : Spot = past s (h.Open field h.CallExpr) in
      let one =
      next_there s (h.Open field h.CallExpr) (h.Ident callee x 0 role ∷ (cleared rest ++ tail))
      it.there in
      begun it.modules.0
      (named occurs keeps alone
      (ih (suc depth) (past inside (h.Ident callee x 0 role)) rest tail steps
      (record {
        small = let l = it.small in omega (arith, l);
        there = next_there inside (h.Ident callee x 0 role) (cleared rest ++ tail) one;
        closed = it.closed;
        modules = it.modules.1;
        first =
            next_call inside (h.Ident callee x 0 role) (cleared rest ++ tail) rest one
            (λ f is. cc);
        each = each;
      })))

  -- a literal call
  call_literal : (n depth : ℕ) (s : Spot) (field callee ctxt outer inner : ℕ) (x value : Text)
      (raw : Option Text) (rest tail : List Item) (step : Step) (steps : List Step) →
      Stand (suc n) depth s
      (h.Open field h.CallExpr ∷ h.Ident callee x ctxt r.Reference ∷ h.Open outer
      (h.ExprOrSpread false) ∷ h.Open inner (h.Str value raw) ∷ h.Close ∷ h.Close ∷ h.Close ∷
      rest)
      tail (step ∷ steps) → Loads step.ident → step.whole ≡ w.Call → AllSuit n →
      Suits Loads
      (h.Open field h.CallExpr ∷ h.Ident callee x ctxt r.Reference ∷ h.Open outer
      (h.ExprOrSpread false) ∷ h.Open inner (h.Str value raw) ∷ h.Close ∷ h.Close ∷ h.Close ∷
      rest)
      (step ∷ steps)
  call_literal n depth s field callee ctxt outer inner x value raw rest tail step steps it load
      whole ih =
      let s1 : Spot = past s (h.Open field h.CallExpr) in
      let s2 : Spot = past s1 (h.Ident callee x 0 r.Reference) in
      let s3 : Spot = past s2 (h.Open outer (h.ExprOrSpread false)) in
      let s4 : Spot = past s3 (h.Open inner (h.Str value raw)) in
      let s5 : Spot = past s4 h.Close in
      let s6 : Spot = past s5 h.Close in
      let t1 = next_there s (h.Open field h.CallExpr) _ it.there in
      let t2 = next_there s1 (h.Ident callee x 0 r.Reference) _ t1 in
      let t3 = next_there s2 (h.Open outer (h.ExprOrSpread false)) _ t2 in
      let t4 = next_there s3 (h.Open inner (h.Str value raw)) _ t3 in
      let t5 = next_there s4 h.Close _ t4 in
      let t6 : drop s6.place (tree_of p m) ≡ h.Close ∷ (cleared rest ++ tail) =
      next_there s5 h.Close _ t5 in
      called load whole
      (ih depth (past s6 h.Close) rest tail steps
      (record {
        small = let l = it.small in omega (arith, l);
        there = next_there s6 h.Close (cleared rest ++ tail) t6;
        closed = it.closed;
        modules = it.modules.1.1.1;
        first = next_call s6 h.Close (cleared rest ++ tail) rest t6 (λ f is. cc);
        each = it.each.1;
      }))

  behind_two : {a b c d : Item} {xs ys : List Item} → a ∷ b ∷ xs ≡ c ∷ d ∷ ys → xs ≡ ys
  behind_two e = cc

  call_case : (n depth : ℕ) (s : Spot) (field : ℕ) (rest tail : List Item) (steps : List Step) →
      Stand (suc n) depth s (h.Open field h.CallExpr ∷ rest) tail steps → AllSuit n →
      Suits Loads (h.Open field h.CallExpr ∷ rest) steps
  call_case n depth s field [] tail steps it ih =
      call_plain n depth s field [] tail steps it tt ih
  call_case n depth s field (h.Open f head ∷ rest) tail steps it ih =
      call_plain n depth s field (h.Open f head ∷ rest) tail steps it tt ih
  call_case n depth s field (h.Hole f ∷ rest) tail steps it ih =
      call_plain n depth s field (h.Hole f ∷ rest) tail steps it tt ih
  call_case n depth s field (h.Close ∷ rest) tail steps it ih =
      call_plain n depth s field (h.Close ∷ rest) tail steps it tt ih
  call_case n depth s field (h.Ident callee x ctxt r.Word ∷ rest) tail steps it ih =
      call_plain n depth s field (h.Ident callee x ctxt r.Word ∷ rest) tail steps it tt ih
  call_case n depth s field (h.Ident callee x ctxt r.Binding ∷ rest) tail [] it ih =
      absurd it.each
  call_case n depth s field (h.Ident callee x ctxt r.Binding ∷ rest) tail (step ∷ steps) it ih =
      by it.each.0
    where
      by : StepFor p list context m
          (occurrence_here (past s (h.Open field h.CallExpr)) callee x 0 r.Binding) step →
          Suits Loads (h.Open field h.CallExpr ∷ h.Ident callee x ctxt r.Binding ∷ rest)
          (step ∷ steps)
      by (calls_it its refers load whole spells) = absurd (false≢true (sym refers))
      by (keeps_it none keeps alone) =
          call_kept n depth s field callee ctxt x r.Binding rest tail step steps it refl keeps
          alone it.each.1 ih
  call_case n depth s field (h.Ident callee x ctxt r.Reference ∷ rest) tail [] it ih =
      absurd it.each
  call_case n depth s field (h.Ident callee x ctxt r.Reference ∷ rest) tail (step ∷ steps) it ih =
      by it.each.0
    where
      by : StepFor p list context m
          (occurrence_here (past s (h.Open field h.CallExpr)) callee x 0 r.Reference) step →
          Suits Loads (h.Open field h.CallExpr ∷ h.Ident callee x ctxt r.Reference ∷ rest)
          (step ∷ steps)
      by (keeps_it none keeps alone) =
          call_kept n depth s field callee ctxt x r.Reference rest tail step steps it refl keeps
          alone it.each.1 ih
      by (calls_it {c = c} its refers load whole spells) =
          let call =
          call_there c (occurrence_here (past s (h.Open field h.CallExpr)) callee x 0 r.Reference)
          s.place
          (h.Open field h.CallExpr ∷ h.Ident callee x 0 r.Reference ∷ (cleared rest ++ tail)) its
          (omega arith) it.there in
          let string =
          string_there depth rest tail call.behind call.outer call.inner call.value call.raw
          it.closed (behind_two call.is) in
          subst
          (λ l.
          Suits Loads (h.Open field h.CallExpr ∷ h.Ident callee x ctxt r.Reference ∷ l)
          (step ∷ steps))
          (sym string.is)
          (call_literal n depth s field callee ctxt string.outer string.inner x string.value
          string.raw string.rest tail step steps
          (subst
          (λ l.
          Stand (suc n) depth s
          (h.Open field h.CallExpr ∷ h.Ident callee x ctxt r.Reference ∷ l) tail (step ∷ steps))
          string.is it)
          load whole ih)

  -- what begins with a node
  of_node : (n depth : ℕ) (s : Spot) (field : ℕ) (head : Head) (rest tail : List Item)
      (steps : List Step) → Stand (suc n) depth s (h.Open field head ∷ rest) tail steps →
      AllSuit n → (head ≡ h.CallExpr) ⊎ (cleared_head head ≡ h.CallExpr → ⊥) →
      Suits Loads (h.Open field head ∷ rest) steps
  of_node n depth s field head rest tail steps it ih (inr other) =
      begun it.modules.0
      (ih (suc depth) (past s (h.Open field (cleared_head head))) rest tail steps
      (record {
        small = let l = it.small in omega (arith, l);
        there = next_there s (h.Open field (cleared_head head)) (cleared rest ++ tail) it.there;
        closed = it.closed;
        modules = it.modules.1;
        first =
            next_call s (h.Open field (cleared_head head)) (cleared rest ++ tail) rest it.there
            (λ f is. other (same_head is));
        each = it.each;
      }))
  of_node n depth s field head rest tail steps it ih (inl same) =
      subst (λ hd. Suits Loads (h.Open field hd ∷ rest) steps) (sym same)
      (call_case n depth s field rest tail steps
      (subst (λ hd. Stand (suc n) depth s (h.Open field hd ∷ rest) tail steps) same it) ih)

  -- what begins with a name
  of_name : (n depth : ℕ) (s : Spot) (field ctxt : ℕ) (x : Text) (role : Role)
      (rest tail : List Item) (step : Step) (steps : List Step) →
      Stand (suc n) depth s (h.Ident field x ctxt role ∷ rest) tail (step ∷ steps) →
      is_occurrence role ≡ true →
      ((c : ℕ) (o : Occurrence) → o.place ≡ s.place → IsCalled p m o c → ⊥) →
      StepFor p list context m (occurrence_here s field x 0 role) step →
      AllZip (StepFor p list context m)
      (occurrences_from (past s (h.Ident field x 0 role)) (cleared rest)) steps → AllSuit n →
      Suits Loads (h.Ident field x ctxt role ∷ rest) (step ∷ steps)
  of_name n depth s field ctxt x role rest tail step steps it occurs uncalled (calls_it {c =
      c} its refers load whole spells) each ih =
      absurd (uncalled c (occurrence_here s field x 0 role) refl its)
  of_name n depth s field ctxt x role rest tail step steps it occurs uncalled
      (keeps_it none keeps alone) each ih =
      named occurs keeps alone
      (ih depth (past s (h.Ident field x 0 role)) rest tail steps
      (record {
        small = let l = it.small in omega (arith, l);
        there = next_there s (h.Ident field x 0 role) (cleared rest ++ tail) it.there;
        closed = it.closed;
        modules = it.modules;
        first =
            next_call s (h.Ident field x 0 role) (cleared rest ++ tail) rest it.there (λ f is. cc);
        each = each;
      }))

  -- EACH STEP
  pub suits : (n depth : ℕ) (s : Spot) (given tail : List Item) (steps : List Step) →
      Stand n depth s given tail steps → Suits Loads given steps
  suits zero depth s given tail steps it = let l = it.small in absurd (omega (arith, l))
  suits (suc n) depth s [] tail [] it = nothing
  suits (suc n) depth s [] tail (step ∷ steps) it = absurd it.each
  suits (suc n) depth s (h.Hole field ∷ rest) tail steps it =
      empty
      (suits n depth (past s (h.Hole field)) rest tail steps
      (record {
        small = let l = it.small in omega (arith, l);
        there = next_there s (h.Hole field) (cleared rest ++ tail) it.there;
        closed = it.closed;
        modules = it.modules;
        first = next_call s (h.Hole field) (cleared rest ++ tail) rest it.there (λ f is. cc);
        each = it.each;
      }))
  suits (suc n) zero s (h.Close ∷ rest) tail steps it = let none = it.closed in cc
  suits (suc n) (suc depth) s (h.Close ∷ rest) tail steps it =
      ended
      (suits n depth (past s h.Close) rest tail steps
      (record {
        small = let l = it.small in omega (arith, l);
        there = next_there s h.Close (cleared rest ++ tail) it.there;
        closed = it.closed;
        modules = it.modules;
        first = next_call s h.Close (cleared rest ++ tail) rest it.there (λ f is. cc);
        each = it.each;
      }))
  suits (suc n) depth s (h.Ident field x ctxt r.Word ∷ rest) tail steps it =
      word refl
      (suits n depth (past s (h.Ident field x 0 r.Word)) rest tail steps
      (record {
        small = let l = it.small in omega (arith, l);
        there = next_there s (h.Ident field x 0 r.Word) (cleared rest ++ tail) it.there;
        closed = it.closed;
        modules = it.modules;
        first =
            next_call s (h.Ident field x 0 r.Word) (cleared rest ++ tail) rest it.there
            (λ f is. cc);
        each = it.each;
      }))
  suits (suc n) depth s (h.Ident field x ctxt r.Binding ∷ rest) tail [] it = absurd it.each
  suits (suc n) depth s (h.Ident field x ctxt r.Binding ∷ rest) tail (step ∷ steps) it =
      of_name n depth s field ctxt x r.Binding rest tail step steps it refl it.first it.each.0
      it.each.1 (suits n)
  suits (suc n) depth s (h.Ident field x ctxt r.Reference ∷ rest) tail [] it = absurd it.each
  suits (suc n) depth s (h.Ident field x ctxt r.Reference ∷ rest) tail (step ∷ steps) it =
      of_name n depth s field ctxt x r.Reference rest tail step steps it refl it.first it.each.0
      it.each.1 (suits n)
  suits (suc n) depth s (h.Open field head ∷ rest) tail steps it =
      of_node n depth s field head rest tail steps it (suits n) (is_call_head head)
