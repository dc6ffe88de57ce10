-- `modes::set_mode` meets its contract: the mode, and the sweep of modes 0..2. Assumes nothing.
use mathlib.Core.Path.{◌≡◌, refl, sym, ◌∙◌, ap}
use lib.ListN.{set}
use Rattle.model.specs.Services.{with_mode}
use Rattle.service_contracts.specs.Did.{shown}
use Rattle.modes.proofs.SetMode.{with-normal, with-other}
use Rattle.modes.proofs.set_mode.Goals as goal
use Rattle.modes.proofs.set_mode.Goals.{then-m-ne-NORMAL, else-m-ne-NORMAL}

pub returns : goal.returns
returns c =
    let a = c.args in
    let t = a.tables.bytes.now in
    let ms = a.modes.now in
    λ b clock.
    let s = shown t clock ms a.numbers.now b in
    let left : shown t clock (set ms a.p a.m) c.if-m-ne-NORMAL.numbers b ≡ with_mode t s a.p a.m =
    elim c.if-m-ne-NORMAL.branch [
      | then-m-ne-NORMAL w ↦ ap (λ ns. shown t clock (set ms a.p a.m) ns b) w.numbers-is ∙ ap (λ ps. record { clock = clock; modes = set ms a.p a.m; ports = ps }) (w.unmake_all.ensures b) ∙ sym (with-other t s a.p a.m w.if-m-ne-NORMAL.true)
      | else-m-ne-NORMAL w ↦ ap (λ ns. shown t clock (set ms a.p a.m) ns b) w.numbers-is ∙ sym (with-normal t s a.p a.m w.if-m-ne-NORMAL.false)
    ]
    in
    rw (c.in_default.ensures t s a.p refl) (record { answered = c.done.ensures; left = left })
