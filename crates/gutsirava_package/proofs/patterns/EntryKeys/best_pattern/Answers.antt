-- A text is looked up from the longest base on: what is found first is the best.
use Rattle.std.proofs.Common.{◌≡◌, ◌+◌, ◌-◌, ◌<◌, ℕ, ◌∙◌, arith, false, is_some, length, subst, sym, true}
use Rattle.gutsirava_package.specs.Lengths.{AreNoted}
use Rattle.gutsirava_package.proofs.BestLemmas.{best-found, none-found, none-start, none-step, none-unmarked}
use Rattle.gutsirava_package.proofs.patterns.EntryKeys.best_pattern.Goals.{then-index+in_ok-found+else-is_some, else-index}
use Rattle.gutsirava_package.proofs.patterns.EntryKeys.best_pattern.Goals as goal

pub loop-tried-init : goal.loop-tried-init
loop-tried-init c = λ key star are is_key from.
    let it = c.self.inside.patterns in
    let noted = subst (λ ks. AreNoted ks it) c.self.view_is c.self.invariant in
    let within : (n : ℕ) → n < length it.marks.items → n < length c.args.text.now → n < c.min-count.result = λ n marks text. omega (arith, marks, text) in
    none-start c.args.self.now c.args.text.now it noted c.min-count.result within key star are is_key (omega (arith, from))

pub returns-then-is_some : goal.returns-then-is_some
returns-then-is_some c =
    let it = c.self.inside.patterns in
    let noted = subst (λ ks. AreNoted ks it) c.self.view_is c.self.invariant in
    let more = c.min-count.result - c.loop-tried.tried in
    let one : more ≡ (more - 1) + 1 = omega arith in
    let found : is_some c.in_ok-found.found ≡ true = sym c.is_some.ensures ∙ c.if-is_some.true in
    best-found c.args.self.now c.args.text.now it noted more (more - 1) c.in_ok-found.found one c.loop-tried.invariant found c.in_ok-found.ensures

pub loop-tried-preserved : goal.loop-tried-preserved
loop-tried-preserved c = λ key star are is_key from.
    let it = c.self.inside.patterns in
    let keys = c.args.self.now in
    let text = c.args.text.now in
    let noted = subst (λ ks. AreNoted ks it) c.self.view_is c.self.invariant in
    let more = c.min-count.result - c.loop-tried.tried in
    let one : more ≡ (more - 1) + 1 = omega arith in
    elim c.if-index.branch [
      | then-index+in_ok-found+else-is_some w ↦
          let missing : is_some w.in_ok-found.found ≡ false = sym w.is_some.ensures ∙ w.if-is_some.false in
          none-step keys text it noted more (more - 1) one c.loop-tried.invariant (none-found keys text it noted (more - 1) w.in_ok-found.found missing w.in_ok-found.ensures) key star are is_key
          (omega (arith, from))
      | else-index w ↦
          none-step keys text it noted more (more - 1) one c.loop-tried.invariant (none-unmarked keys text it noted (more - 1) c.index.result.now c.index.ensures w.if-index.false) key star are is_key
          (omega (arith, from))
    ]

pub returns : goal.returns
returns c = λ key star are is_key. c.loop-tried.invariant key star are is_key (omega (arith, c.loop-tried-test.false))
