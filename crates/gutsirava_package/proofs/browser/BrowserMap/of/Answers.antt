-- Each member is put where its key stands, or last.
use Rattle.std.proofs.Common.{◌≡◌, ◌+◌, ◌<◌, ◌∙◌, [], List, ap, arith, drop, length, map, sym}
use Rattle.std.specs.List.{zip}
use Rattle.json.specs.Value.{members_view}
use Rattle.gutsirava_package.specs.Browser.{replacing, with_members}
use Rattle.gutsirava_package.specs.Keys.{put_at}
use Rattle.gutsirava_package.specs.declared.browser.BrowserReplacement.{BrowserReplacement}
use Rattle.gutsirava_package.proofs.BrowserLemmas.{member-step}
use Rattle.gutsirava_package.proofs.KeyLemmas.{put-sizes}
use Rattle.gutsirava_package.proofs.browser.BrowserMap.of.Goals as goal

pub loop-key-preserved : goal.loop-key-preserved
loop-key-preserved c =
    let members = c.args.members.now in
    let index = c.loop-key.key-index in
    let item = c.loop-key-item.result in
    let more = c.add.new.self in
    let place = c.in_ok-place.place in
    let it = c.in_ok-replacement.replacement in
    let says = c.loop-key.replacements.items in
    let put : c.put.new.items.items ≡ put_at place it says = c.in_ok-put.ensures in
    let within : index < length members = omega (arith, c.loop-key-test.true) in
    record {
      sizes = ap length put ∙ put-sizes c.loop-key.keys more item.0.now place says it c.loop-key.invariant.sizes c.in_ok-place.ensures.keys c.in_ok-place.ensures.place;
      entries = ap (λ (l : List BrowserReplacement). with_members (members_view (drop (index + 1) members)) (zip more (map replacing l))) put
          ∙ member-step members index item c.loop-key.keys more says place it (with_members (members_view members) []) within (sym c.loop-key-item.is) c.loop-key.invariant.sizes
          c.loop-key.invariant.entries c.in_ok-place.ensures.keys c.in_ok-place.ensures.place c.in_ok-replacement.ensures;
    }
