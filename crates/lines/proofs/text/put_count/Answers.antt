-- The digits that `io::decimal` gives are the number's decimal.
use Rattle.std.proofs.Common.{ap₂, ◌∙◌, ◌≤◌, arith}
use Rattle.lines.specs.Text.{◌then◌}
use Rattle.lines.proofs.Texts.{decimal-is, few-digits}
use Rattle.lines.proofs.text.put_count.Goals as goal

pub slice_bounds-put_text-end : goal.slice_bounds-put_text-end
slice_bounds-put_text-end c =
    let few : c.decimal-size.result ≤ 20 = few-digits _ _ (omega arith) c.decimal-size.ensures.len in
    omega arith

pub returns : goal.returns
returns c =
    let few : c.decimal-size.result ≤ 20 = few-digits _ _ (omega arith) c.decimal-size.ensures.len in
    record {
      out_after =
          c.put_text.ensures.out_after
          ∙ ap₂ (λ q t. q then t) c.put_text-at.ensures.out_after (c.decimal-size.ensures.digits ∙ decimal-is _ _ c.decimal-size.ensures.len);
      upper_bound = omega arith;
    }
