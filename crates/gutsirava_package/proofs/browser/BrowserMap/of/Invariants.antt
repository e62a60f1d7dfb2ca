use Rattle.std.proofs.Common.{◌≡◌, [], drop, length, map}
use Rattle.std.specs.List.{zip}
use Rattle.json.specs.Value.{members_view}
use Rattle.gutsirava_package.specs.Browser.{replacing, with_members}
use Rattle.gutsirava_package.proofs.browser.BrowserMap.of.Given as goal

abbrev pub invariant-loop-key : goal.invariant-loop-key
invariant-loop-key l = record {
  sizes : length l.replacements.items ≡ length l.keys;
  entries : with_members (members_view (drop l.key-index l.members)) (zip l.keys (map replacing l.replacements.items)) ≡ with_members (members_view l.members) [];
}
