-- Each length behind the `*` is looked at, and what is noted are all.
use Rattle.std.proofs.Common.{◌≤◌, ℕ, Contains, arith, length, refl, subst, sym, take}
use Rattle.gutsirava_package.specs.Lengths.{AreNoted, HasLengths}
use Rattle.gutsirava_package.proofs.BestLemmas.{so-far-end, so-far-step}
use Rattle.gutsirava_package.proofs.patterns.EntryKeys.longest_pattern.Goals as goal

pub loop-trailer-preserved : goal.loop-trailer-preserved
loop-trailer-preserved c =
    so-far-step _ _ _ _ _ _ _ _ _ c.loop-trailer.invariant refl c.in_ok-found.ensures c.longer-longest.ensures

pub returns : goal.returns
returns c =
    let keys = c.args.self.now in
    let text = c.args.text.now in
    let base = c.args.base in
    let it = c.self.inside.patterns in
    let sizes = c.trailers_of-trailer-items.result.now in
    let noted = subst (λ ks. AreNoted ks it) c.self.view_is c.self.invariant in
    let past : length sizes ≤ c.loop-trailer.trailer-index = omega arith in
    let has : (trailer : ℕ) → HasLengths it (take base text) trailer → Contains sizes trailer = λ trailer own.
    c.trailers_of-trailer-items.ensures trailer (subst (λ l. HasLengths it (take base l) trailer) (sym c.as_bytes.ensures.value) own) in
    so-far-end keys text base sizes c.loop-trailer.trailer-index c.loop-trailer.longest it c.loop-trailer.invariant past noted has
