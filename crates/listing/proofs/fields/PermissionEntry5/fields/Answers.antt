use Prim.Native.Nat.{◌<◌, ◌^◌}
use mathlib.Core.Path.{refl}
use native.Mathlib.Omega.{arith}
use Rattle.text.specs.Text.{line_text}
use Rattle.listing.specs.Texts.{texts}
use Rattle.listing.specs.Inner.{field_text, fields_text}
use Rattle.listing.specs.Listing.{permission_text}
use Rattle.listing.proofs.Laws.{permission_most}
use Rattle.listing.proofs.fields.PermissionEntry5.fields.Goals as goal

pub returns-clause-is : goal.returns-clause-is
unfolding line_text texts field_text fields_text permission_text
returns-clause-is c = refl

pub returns-clause-most : goal.returns-clause-most
returns-clause-most c h = let fits : c.args.self.expiry < 2 ^ 64 = omega arith in permission_most c.args.k c.args.self h fits
