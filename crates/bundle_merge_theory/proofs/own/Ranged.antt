-- The nodes of a part go to nodes of what is made of it, in order.
use Rattle.std.proofs.Common.{◌≤◌, ℕ, suc, ◌+◌, Bool, true, false, List, [], ◌∷◌, ◌++◌, Some, length, length-append, arith}
use Rattle.std.specs.Prelude.{if◌then◌else◌}
use Rattle.bundle_syntax.specs.declared.piece.Role.{Role}
use Rattle.bundle_syntax.specs.Item as h
use Rattle.bundle_syntax.specs.Item.{Item}
use Rattle.bundle_tree_places.specs.Edits.{Around, node, binding, pattern_in_its_place, shorthand_in_its_place}
use Rattle.bundle_rules.specs.Nodes.{Text}
use Rattle.bundle_rules.specs.Rebuilds.{Change, plain_key}
use Rattle.bundle_tree_rebuild.specs.Work.{Work, change_at}
use Rattle.bundle_merge_theory.specs.walked.Rewrites.{Rewrites}
use Rattle.bundle_merge_theory.specs.walked.Rewrites as e
use Rattle.bundle_merge_theory.specs.own.Beside.{Pairs, Rise, Below}
use Rattle.bundle_merge_theory.proofs.own.Pairs.{rise-earlier, rise-append, below-append, below-later}
use Rattle.bundle_merge_theory.proofs.own.Walking.{pairs, more_in_front}
use Rattle.bundle_merge_theory.proofs.finished.Statements.{node-length as node_long}

-- spelled out or not, these stand in front of a default value
short_long : (change : Change) (field : ℕ) (x : Text) (ctxt : ℕ) (role : Role)
    (within : List Item) →
    more_in_front change.is_spelled_out + length within
    ≤ length (shorthand_in_its_place (Some change) field x ctxt role within)
short_long change field x ctxt role within = by_test change.is_spelled_out within
  where
    by_test : (b : Bool) (within : List Item) →
        more_in_front b + length within
        ≤ length (if b then node field h.KeyValuePatProp
        (plain_key x ++ pattern_in_its_place (Some change) x ctxt role within)
        else node field h.AssignPatProp (binding (Some change) 0 x ctxt role ++ within))
    by_test true [] = omega arith
    by_test true (first ∷ more) =
        let one = node_long 1 h.AssignPat
        (h.Open 0 h.BindingIdent ∷ h.Ident 0 change.ident.0 change.ident.1 role ∷ h.Close ∷ first ∷
        more) in
        let two = node_long field h.KeyValuePatProp
        (plain_key x ++ node 1 h.AssignPat
        (h.Open 0 h.BindingIdent ∷ h.Ident 0 change.ident.0 change.ident.1 role ∷ h.Close ∷ first ∷
        more)) in
        omega (arith, one, two)
    by_test false within =
        let one = node_long field h.AssignPatProp (binding (Some change) 0 x ctxt role ++ within) in
        omega (arith, one)

pub pairs-below : {its : Around} {work rest : Work} {before within : List Item}
    (d : Rewrites its work before within rest) (from to : ℕ) →
    Below (from + length before) (to + length within) (pairs d from to)
pairs-below e.Nothing from to = tt
pairs-below (e.Joined {first = xs} {made_first = us} {second = ys} {made_second = vs} one two) from
    to =
    let a = length-append xs ys in
    let b = length-append us vs in
    below-append (from + length (xs ++ ys)) (to + length (us ++ vs)) (pairs one from to)
    (pairs two (from + length xs) (to + length us))
    (below-later (from + length xs) (to + length us) (from + length (xs ++ ys))
    (to + length (us ++ vs)) (pairs one from to) (omega (arith, a)) (omega (arith, b))
    (pairs-below one from to))
    (below-later (from + length xs + length ys) (to + length us + length vs)
    (from + length (xs ++ ys)) (to + length (us ++ vs))
    (pairs two (from + length xs) (to + length us)) (omega (arith, a)) (omega (arith, b))
    (pairs-below two (from + length xs) (to + length us)))
pairs-below (e.Hole field) from to = tt
pairs-below (e.Word field x ctxt role plain) from to = tt
pairs-below (e.Name its field x ctxt role step occurs free takes) from to = tt
pairs-below (e.Inside field head {inside = xs} {made = us} stays one) from to =
    let a = node_long field head xs in
    let b = node_long field head us in (
      omega (arith, a),
      omega (arith, b),
      below-later (from + 1 + length xs) (to + 1 + length us) (from + length (node field head xs))
          (to + length (node field head us)) (pairs one (from + 1) (to + 1)) (omega (arith, a))
          (omega (arith, b)) (pairs-below one (from + 1) (to + 1)),
    )
pairs-below (e.Declaration {work = work} field kind notes {inside = xs} {made = us} one) from to =
    let a = length-append xs (h.Close ∷ []) in
    let b = length-append us (h.Close ∷ []) in (
      omega (arith, a),
      omega (arith, b),
      below-later (from + 1 + length xs) (to + 1 + length us) _ _ (pairs one (from + 1) (to + 1))
          (omega (arith, a)) (omega (arith, b)) (pairs-below one (from + 1) (to + 1)),
    )
pairs-below (e.Kept field head number {inside = xs} {made = us} {more = ys} {made_more = vs} keeps
    one two) from to =
    let object : List Item = node number h.MemberExpr xs in
    let its : List Item = node number h.MemberExpr us in
    let high : ℕ = from + length (node field head (object ++ ys)) in
    let other : ℕ = to + length (node field head (its ++ vs)) in
    let a = node_long field head (object ++ ys) in
    let b = node_long field head (its ++ vs) in
    let c = length-append object ys in
    let d = length-append its vs in
    let f = node_long number h.MemberExpr xs in
    let g = node_long number h.MemberExpr us in (
      omega (arith, a),
      omega (arith, b),
      (
        omega (arith, a, c, f),
        omega (arith, b, d, g),
        below-append high other (pairs one (from + 1 + 1) (to + 1 + 1))
            (pairs two (from + 1 + length object) (to + 1 + length its))
            (below-later (from + 1 + 1 + length xs) (to + 1 + 1 + length us) high other
            (pairs one (from + 1 + 1) (to + 1 + 1)) (omega (arith, a, c, f)) (omega (arith, b, d, g))
            (pairs-below one (from + 1 + 1) (to + 1 + 1)))
            (below-later (from + 1 + length object + length ys) (to + 1 + length its + length vs) high
            other (pairs two (from + 1 + length object) (to + 1 + length its)) (omega (arith, a, c))
            (omega (arith, b, d)) (pairs-below two (from + 1 + length object)
            (to + 1 + length its))),
      ),
    )
pairs-below (e.Shorthand field x ctxt role step {default = xs} {made = us} occurs takes one) from
    to =
    let a = node_long field h.AssignPatProp
    (h.Open 0 h.BindingIdent ∷ h.Ident 0 x ctxt role ∷ h.Close ∷ xs) in
    let b = short_long (change_at x step) field x ctxt role us in
    let more : ℕ = more_in_front (change_at x step).is_spelled_out in
    below-later (from + 4 + length xs) (to + more + length us) _ _
    (pairs one (from + 4) (to + more)) (omega (arith, a)) (omega (arith, b))
    (pairs-below one (from + 4) (to + more))
pairs-below (e.OfReads field name inside found) from to = tt
pairs-below (e.OfCall field name inside found) from to = tt
pairs-below (e.OfMeta field kind name found) from to = tt

pub pairs-rise : {its : Around} {work rest : Work} {before within : List Item}
    (d : Rewrites its work before within rest) (from to : ℕ) → Rise from to (pairs d from to)
pairs-rise e.Nothing from to = tt
pairs-rise (e.Joined {first = xs} {made_first = us} one two) from to =
    rise-append from to (from + length xs) (to + length us) (pairs one from to)
    (pairs two (from + length xs) (to + length us)) (omega arith) (omega arith)
    (pairs-rise one from to) (pairs-below one from to)
    (pairs-rise two (from + length xs) (to + length us))
pairs-rise (e.Hole field) from to = tt
pairs-rise (e.Word field x ctxt role plain) from to = tt
pairs-rise (e.Name its field x ctxt role step occurs free takes) from to = tt
pairs-rise (e.Inside field head stays one) from to = (
  omega arith,
  omega arith,
  rise-earlier (from + 1) (to + 1) (suc from) (suc to)
      (pairs one (from + 1) (to + 1)) (omega arith) (omega arith)
      (pairs-rise one (from + 1) (to + 1)),
)
pairs-rise (e.Declaration field kind notes one) from to = (
  omega arith,
  omega arith,
  rise-earlier (from + 1) (to + 1) (suc from) (suc to)
      (pairs one (from + 1) (to + 1)) (omega arith) (omega arith)
      (pairs-rise one (from + 1) (to + 1)),
)
pairs-rise (e.Kept field head number {inside = xs} {made = us} keeps one two) from to =
    let object : List Item = node number h.MemberExpr xs in
    let its : List Item = node number h.MemberExpr us in
    let f = node_long number h.MemberExpr xs in
    let g = node_long number h.MemberExpr us in
    let first : Pairs = pairs one (from + 1 + 1) (to + 1 + 1) in
    let second : Pairs = pairs two (from + 1 + length object) (to + 1 + length its) in (
      omega arith,
      omega arith,
      (
        omega arith,
        omega arith,
        rise-append (suc (from + 1)) (suc (to + 1)) (from + 1 + length object) (to + 1 + length its)
            first second (omega (arith, f)) (omega (arith, g))
            (rise-earlier (from + 1 + 1) (to + 1 + 1) (suc (from + 1)) (suc (to + 1)) first
            (omega arith) (omega arith) (pairs-rise one (from + 1 + 1) (to + 1 + 1)))
            (below-later (from + 1 + 1 + length xs) (to + 1 + 1 + length us)
            (from + 1 + length object) (to + 1 + length its) first (omega (arith, f))
            (omega (arith, g)) (pairs-below one (from + 1 + 1) (to + 1 + 1)))
            (pairs-rise two (from + 1 + length object) (to + 1 + length its)),
      ),
    )
pairs-rise (e.Shorthand field x ctxt role step occurs takes one) from to =
    let more : ℕ = more_in_front (change_at x step).is_spelled_out in
    rise-earlier (from + 4) (to + more) from to (pairs one (from + 4) (to + more)) (omega arith)
    (omega arith) (pairs-rise one (from + 4) (to + more))
pairs-rise (e.OfReads field name inside found) from to = tt
pairs-rise (e.OfCall field name inside found) from to = tt
pairs-rise (e.OfMeta field kind name found) from to = tt
