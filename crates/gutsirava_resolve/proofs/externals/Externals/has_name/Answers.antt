-- The package is that of the specifier.
use Rattle.std.proofs.Common.{◌≡◌, ◌||◌, true, false, ap, sym, ◌∙◌}
use Rattle.gutsirava_resolve.specs.Externals.{fit_any, have}
use Rattle.gutsirava_resolve.proofs.externals.Externals.has_name.Goals as goal

pub returns-then-fit_any : goal.returns-then-fit_any
returns-then-fit_any c =
    let name = c.package_of-package.result.now in
    let names = c.args.self.now.names.items in
    let fits : fit_any names c.args.specifier.now ≡ true = cc in
    (name, c.package_of-package.ensures, sym (ap (λ b. b || have names name) fits))

pub returns : goal.returns
returns c =
    let name = c.package_of-package.result.now in
    let names = c.args.self.now.names.items in
    let misses : fit_any names c.args.specifier.now ≡ false = cc in
    let has : c.have.result ≡ have names name = cc in
    (name, c.package_of-package.ensures, has ∙ sym (ap (λ b. b || have names name) misses))
