-- The common order of the edits: its answers, and how an edit's own rules go on after it.
use Rattle.std.specs.Prelude.{◌≡◌, ℕ, List, ◌++◌, Bool, true, false, not, ◌&&◌, Ok, Err}
use Rattle.std.proofs.Common.{sym, ◌∙◌}
use Rattle.verdicts.specs.Rules.{Rule, first}
use Rattle.verdicts.specs.declared.Verdict.{Verdict}
use Rattle.verdicts.specs.declared.Verdict.TheVariants.{Missing}
use Rattle.verdicts.proofs.Rules.{first-append, first-map, first-ok, clear_first, clear_both}
use Rattle.wire.specs.Outer.{four}
use Rattle.wire.specs.Inner.{silent_of, message_of, whole_rules, whole_of}
use Rattle.wire.specs.declared.Message.{Message}
use Rattle.wire.proofs.Held.{answered, by_whole, held_whole}
use Rattle.judge.specs.Judge.{missing_rule}
use Rattle.kept.specs.Edits.{edit_rules}
use Rattle.steps.specs.Steps.{editable_of, Editable}

-- ---- what `editable` answers, by what `wire` answers of the packet's shape
in_order : (p : List ℕ) → editable_of p ≡ answered Err (first (missing_rule p) Err (Ok (message_of p))) (whole_of p)
unfolding editable_of edit_rules
in_order p = first-append (whole_rules p) (missing_rule p) Err (Ok (message_of p)) ∙ by_whole p Err _

pub not_whole : (p : List ℕ) (v : Verdict) → Err v ≡ whole_of p → Err v ≡ editable_of p
not_whole p v e = sym (in_order p ∙ rw (← e))

module _ (p : List ℕ) (m : Message) (e : Ok m ≡ whole_of p) (b : Bool) (t : b ≡ (silent_of p && not (four p))) where
  pub is_missing : b ≡ true → Err Missing ≡ editable_of p
  is_missing x = sym (in_order p ∙ rw (← e, ← t, x))

  pub is_editable : b ≡ false → Ok m ≡ editable_of p
  is_editable x = sym (in_order p ∙ rw (← e, ← t, x, ← (held_whole p m e).is))

-- ---- an edit's rules behind those
pub by_editable : {A : Type 0} (p : List ℕ) (rest : List Rule) (refuse : Verdict → A) (go : A)
    → first (edit_rules p ++ rest) refuse go ≡ answered refuse (first rest refuse go) (editable_of p)
unfolding editable_of
by_editable p rest r g = first-append (edit_rules p) rest r g ∙ sym (first-map (answered r (first rest r g)) (edit_rules p) Err (Ok (message_of p)))

pub held_editable : (p : List ℕ) (m : Message) → Ok m ≡ editable_of p → Editable p m
unfolding editable_of edit_rules whole_of
held_editable p m e =
    let q = first-ok (edit_rules p) e in
    let c = clear_both (whole_rules p) (missing_rule p) q.1 in
    record { holds = held_whole p m (rw q.0 (sym (clear_first (whole_rules p) Err (Ok (message_of p)) c.0))); summed = c.1.0 }
