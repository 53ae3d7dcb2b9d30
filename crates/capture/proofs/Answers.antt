-- Each answer to a capture, from the facts that lead to it.
use Rattle.std.proofs.Common.{◌≡◌, refl, ℕ, ◌≤◌, ◌<◌, arith, List, true, false, length}
use Rattle.std.specs.Prelude.{Result, Ok, Err}
use borrow.Author.Tests.{lt-ltb, le-ltb}
use Rattle.verdicts.proofs.Tests.{by_cases}
use Rattle.verdicts.specs.declared.Verdict.TheVariants.{Mark, Edition, Record, Room}
use Rattle.wire.specs.Bytes.{put}
use Rattle.capture.specs.Records.{Records, other_mark, other_edition, records_in}
use Rattle.capture.specs.Judged.{capture_rules, verdicts_of, judged_of, counted_of}
use Rattle.capture.specs.declared.Damaged.{Damaged}

-- what each count tells
abbrev Tells : Records → Result ℕ Damaged → Type 0
Tells r (Ok n) = (r.broken ≡ false) × (length r.packets ≡ n)
Tells r (Err d) = r.broken ≡ true

tells : (r : Records) (k : Result ℕ Damaged) → k ≡ counted_of r → Tells r k
tells r k e = rw e (by_cases r.broken (λ b. simp b refl) (λ b. simp b (refl, refl)))

pub fits : (c buffer : List ℕ) (n : ℕ) → Ok n ≡ counted_of (records_in c) → n ≤ length buffer → length (records_in c).packets ≤ length buffer
fits c buffer n w h = omega (arith, (tells (records_in c) (Ok n) w).1)

module _ (c buffer : List ℕ) where
  pub marked : other_mark c ≡ true → (Err Mark, buffer) ≡ judged_of c buffer
  unfolding judged_of capture_rules
  marked m = simp m

  module _ (m : other_mark c ≡ false) where
    pub edition : other_edition c ≡ true → (Err Edition, buffer) ≡ judged_of c buffer
    unfolding judged_of capture_rules
    edition e = simp (m, e)

    module _ (e : other_edition c ≡ false) where
      pub damage : (d : Damaged) → Err d ≡ counted_of (records_in c) → (Err Record, buffer) ≡ judged_of c buffer
      unfolding judged_of capture_rules
      damage d r = simp (m, e, tells (records_in c) (Err d) r)

      module _ (n : ℕ) (w : Ok n ≡ counted_of (records_in c)) where
        pub room : length buffer < n → (Err Room, buffer) ≡ judged_of c buffer
        unfolding judged_of capture_rules
        room h =
            let k = tells (records_in c) (Ok n) w in
            simp (m, e, k.0, k.1, lt-ltb (length buffer) n h)

        pub good : n ≤ length buffer → (Ok n, put buffer 0 (verdicts_of (records_in c).packets)) ≡ judged_of c buffer
        unfolding judged_of capture_rules
        good h =
            let k = tells (records_in c) (Ok n) w in
            simp (m, e, k.0, k.1, le-ltb (length buffer) n h)
