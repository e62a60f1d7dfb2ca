-- What stands at a place is what its key says.
use Rattle.std.proofs.Common.{◌≡◌, ◌∙◌, List, map, slice_get, subst, sym}
use Rattle.std.specs.Borrow.{Bor}
use Rattle.std.specs.Option.{option_map}
use Rattle.gutsirava_package.specs.Browser.{Entry, replacing}
use Rattle.gutsirava_package.specs.declared.browser.BrowserReplacement.{BrowserReplacement}
use Rattle.gutsirava_package.proofs.BrowserLemmas.{replacement-at}
use Rattle.gutsirava_package.proofs.browser.BrowserMap.replacement.Goals as goal

pub returns : goal.returns
returns c =
    let its = c.self.inside in
    subst (λ (entries : List Entry). option_map (λ (it : Bor BrowserReplacement). replacing it.now) c.get.result ≡ option_map (λ (entry : Entry). entry.1) (slice_get entries c.args.place))
    c.self.view_is
    (replacement-at its.keys its.replacements.items c.deref.result.now c.args.place c.get.result (sym its.replacements.ok.0 ∙ c.self.invariant) c.deref.ensures.value c.get.ensures.lookup.3)
