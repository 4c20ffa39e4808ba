use mathlib.Core.Path.{refl}
use native.Mathlib.Omega.{arith}
use Rattle.wire.proofs.Laws.{wrote_length}
use Rattle.client_reader.proofs.Same.{front_size, checked_made}
use Rattle.client_reader.proofs.responses.compared.Goals as goal

pub slice_bounds-made-end : goal.slice_bounds-made-end
slice_bounds-made-end g c =
    let sent = c.requires.writes _ _ _ (record { shown = _; shows = refl; left = _; met = c.put-n.ensures; leaves = refl }) in
    omega (arith, sent.size, sent.wrote.fits, wrote_length sent.wrote)

pub slice_bounds-same-end : goal.slice_bounds-same-end
slice_bounds-same-end g c = front_size (c.requires.writes _ _ _ (record { shown = _; shows = refl; left = _; met = c.put-n.ensures; leaves = refl }))

pub returns : goal.returns
returns g c =
    checked_made _ _ _ c.then_some.ensures
    (c.requires.writes _ _ _ (record { shown = _; shows = refl; left = _; met = c.put-n.ensures; leaves = refl })) c.same.ensures
