-- The packet that is built is good by the RFCs' words, and the only one that has what was asked for.
use Rattle.std.proofs.Common.{◌≡◌, refl, sym, ap, ap₂, ◌∙◌, ◌↔◌, ◌≢◌, inl, ⊎_elim, ℕ, suc, ◌+◌, ◌-◌, ◌≤◌, ◌<◌, arith, add-one, List, [], ◌∷◌, ◌++◌, true, false, true≢false, length, take, drop, length-drop, take-append-drop, take_all, drop-drop, drop-cons, ext_get_or, eq-eqb, eqb-true}
use Rattle.verdicts.specs.declared.Verdict.{Verdict}
use Rattle.verdicts.specs.declared.Verdict.TheVariants.{Good}
use Rattle.verdicts.proofs.Calls.{call-done}
use Rattle.sums.specs.Fold.{fold, field_of}
use Rattle.wire.specs.Bytes.{byte_at, word_at, part, put_word, Bytes}
use Rattle.wire.specs.Outer.{four, family_of, version_of, header_field, addresses_at, address_size}
use Rattle.wire.specs.Chain.{Chain, here, over}
use Rattle.wire.specs.Inner.{protocol_of, start_of, body_of, end_of, field_at, udp, silent_of, whole_rules}
use Rattle.wire.specs.declared.Family.{Family}
use Rattle.wire.specs.declared.Family.TheVariants.{Four, Six}
use Rattle.wire.proofs.Parts.{part-add, bytes-append, bytes_small}
use Rattle.wire.proofs.Chains.{chain-order}
use Rattle.wire.proofs.Facts.{Facts}
use Rattle.wire.proofs.Held.{whole-facts, family4, family6}
use Rattle.wire.proofs.Walks.{walk-arrives}
use Rattle.cover.specs.Sums.{message_total}
use Rattle.judge.specs.Judge.{judge_of}
use Rattle.judge.specs.Rfc.{IsGoodByRfc}
use Rattle.judge.proofs.Accepts.{accepted, verdict-good}
use Rattle.judge.proofs.Rfc.{good-by-rfc}
use Rattle.judge.proofs.Covered.{start4, declared4, protocol4, declared6}
use Rattle.mend.specs.Fresh.{fresh_header, fresh_message}
use Rattle.mend.specs.Mend.{mended_header, mended_message, mend_of}
use Rattle.mend.proofs.Numbers.{sent-small}
use Rattle.mend.proofs.Mending.{mend-length, good-stands}
use Rattle.build.specs.Layout.{Asked, word, family_for, header_in, header_for, datagram_for, datagram_size, laid, packet_of}
use Rattle.build.specs.Build.{misfit}
use Rattle.build.specs.Reads.{Builds, Handed, Reads, Plain}
use Rattle.build.proofs.Laid.{plan-is}
use Rattle.build.proofs.Summed.{laid-mended, field-some}
use Rattle.build.proofs.Answers.{fits}
use Rattle.build.proofs.Promised.{fit, is, built-good, built-read}

-- ---- good by the RFCs' words
-- header and datagram are of bytes if what is handed over is, as the body is short
module _ {a : Asked} (l : length a.body ≤ 1400) (x : Handed a) where
  header-bytes : (f : Family) (h : ℕ) → h ≤ 65535 → Bytes (header_for f a h)
  header-bytes f h g = by f
    where
      front : Family → List ℕ
      front f = header_in f (datagram_size a) a.lifetime [] [] h

      both : Bytes (a.source ++ a.destination)
      both = bytes-append a.source a.destination x.source x.destination

      by : (f : Family) → Bytes (header_for f a h)
      by Four = let t = x.lifetime in bytes-append (front Four) (a.source ++ a.destination) (bytes_small (front Four) (omega arith)) both
      by Six = let t = x.lifetime in bytes-append (front Six) (a.source ++ a.destination) (bytes_small (front Six) (omega arith)) both

  datagram-bytes : (m : ℕ) → m ≤ 65535 → Bytes (datagram_for a m)
  datagram-bytes m h =
      let front : List ℕ = word a.source_port ++ (word a.destination_port ++ (word (datagram_size a) ++ word m)) in
      let i = x.source_port in
      let j = x.destination_port in
      bytes-append front a.body (bytes_small front (omega arith)) x.body

-- and so is the packet, since fresh fields are 16-bit words
packet-bytes : (a : Asked) → misfit a ≡ false → Handed a → Bytes (packet_of a)
unfolding packet_of laid fresh_header fresh_message
packet-bytes a u x =
    let f = family_for a.source in
    let blank = laid f a 0 0 in
    let l = (fits a u).body in
    bytes-append (header_for f a (fresh_header blank)) (datagram_for a (fresh_message blank)) (header-bytes l x f (fresh_header blank) (omega arith))
    (datagram-bytes l x (fresh_message blank) (sent-small (udp blank) (field_of (fold (message_total (put_word blank (field_at blank) 0)))) (omega arith)))

-- what is built of bytes is good by the RFCs' words
pub built-rfc : (a : Asked) (buffer : List ℕ) {n : ℕ} {q : List ℕ} → Builds a buffer n q → Handed a → IsGoodByRfc (take n q)
built-rfc a buffer {n} {q} e x = (good-by-rfc (take n q) (rw (is a buffer e) (packet-bytes a (fit a buffer e) x))).0 (built-good a buffer e).0

-- ---- the only one
-- what a string begins with, at any place: a byte, a word, a string
module _ (p : List ℕ) where
  byte-first : (at : ℕ) {x : ℕ} {rest : List ℕ} → at < length p → byte_at p at ≡ x → drop (suc at) p ≡ rest → drop at p ≡ x ∷ rest
  byte-first at h e r = drop-cons p at 0 h ∙ ap₂ (λ (x : ℕ) (xs : List ℕ). x ∷ xs) e r

  word_first : Bytes p → (at next : ℕ) {w : ℕ} {rest : List ℕ} → next ≡ at + 2 → next ≤ length p → word_at p at ≡ w → drop next p ≡ rest
      → drop at p ≡ word w ++ rest
  word_first b at next n h e r =
      let one = add-one at in
      let two : suc (suc at) ≡ next = omega arith in
      byte-first at (omega arith) (omega (arith, b (at + 1)))
      (byte-first (suc at) (omega arith) (ap (byte_at p) (sym one) ∙ omega (arith, b (at + 1))) (rw two r))

  part-first : (at n : ℕ) {xs rest : List ℕ} → part p at n ≡ xs → drop (at + n) p ≡ rest → drop at p ≡ xs ++ rest
  part-first at n e r = sym (take-append-drop n (drop at p)) ∙ ap₂ ◌++◌ e (drop-drop n at p ∙ r)

-- a way that leads no further passes no header
none_between : {p : List ℕ} {end count n at k start : ℕ} → Chain p end count n at k start → start ≤ at → n ≡ k
none_between here h = refl
none_between (over q c) h = absurd (omega (arith, chain-order c))

-- a packet that has what was asked for is laid out so, whatever stands in its two fields
module _ {a : Asked} {p : List ℕ} (b : Bytes p) (k : Facts p) (r : Reads a p) where
  is-udp : udp p ≡ true
  is-udp = eq-eqb (protocol_of p) 17 r.protocol

  -- the datagram: its body reaches to the end, and its length is said right
  body-starts : body_of p ≡ start_of p + 8
  unfolding body_of
  body-starts = rw (r.protocol, plan-is (family_of p))

  body_is : drop (start_of p + 8) p ≡ a.body
  body_is =
      let e = r.whole.0 in
      rw (sym body-starts) (sym (take_all (end_of p - body_of p) (drop (body_of p) p) (omega (arith, length-drop (body_of p) p))) ∙ r.body)

  long : length p ≡ start_of p + datagram_size a
  long = let e = r.whole.0 in omega (arith, k.body, body-starts, sym (length-drop (start_of p + 8) p) ∙ ap length body_is)

  datagram-is : drop (start_of p) p ≡ datagram_for a (word_at p (start_of p + 6))
  datagram-is =
      let at = start_of p in
      let n = long in
      let e = r.whole.0 in
      word_first p b at (at + 2) refl (omega arith) r.source_port
      (word_first p b (at + 2) (at + 4) (omega arith) (omega arith) r.destination_port
      (word_first p b (at + 4) (at + 6) (omega arith) (omega arith) ((k.udp is-udp).2 ∙ omega arith)
      (word_first p b (at + 6) (at + 8) (omega arith) (omega arith) refl body_is)))

  -- the header
  addresses-are : part p (addresses_at p) (address_size p + address_size p) ≡ a.source ++ a.destination
  addresses-are = part-add p (addresses_at p) (address_size p) (address_size p) ∙ ap₂ ◌++◌ r.source r.destination

  abbrev LaidIn : Family → Type 0
  LaidIn f = p ≡ laid f a (word_at p header_field) (word_at p (start_of p + 6))

  laid-four : four p ≡ true → start_of p ≡ 20 → byte_at p 1 ≡ 0 → word_at p 4 ≡ 0 → word_at p 6 ≡ 0 → LaidIn Four
  unfolding laid
  laid-four f s x y z =
      let n = long in
      byte-first p 0 (omega arith) (omega (arith, eqb-true (version_of p) 4 f, start4 p f))
      (byte-first p 1 (omega arith) x
      (word_first p b 2 4 refl (omega arith) (sym (declared4 p f) ∙ r.whole.1 ∙ omega arith)
      (word_first p b 4 6 refl (omega arith) y
      (word_first p b 6 8 refl (omega arith) z
      (byte-first p 8 (omega arith) (simp f at r.lifetime)
      (byte-first p 9 (omega arith) (sym (protocol4 p f k) ∙ r.protocol)
      (word_first p b 10 12 refl (omega arith) refl
      (part-first p 12 8 (simp f at addresses-are) (ap (λ at. drop at p) (sym s) ∙ datagram-is)))))))))

  laid-six : four p ≡ false → start_of p ≡ 40 → word_at p 0 ≡ 0x6000 → word_at p 2 ≡ 0 → LaidIn Six
  unfolding laid
  laid-six f s x y =
      let n = long in
      let d = sym (declared6 p f) ∙ r.whole.1 in
      word_first p b 0 2 refl (omega arith) x
      (word_first p b 2 4 refl (omega arith) y
      (word_first p b 4 6 refl (omega arith) (omega arith)
      (byte-first p 6 (omega arith) (none_between (walk-arrives p f k.walked).chain (omega arith) ∙ r.protocol)
      (byte-first p 7 (omega arith) (simp f at r.lifetime)
      (part-first p 8 32 (simp f at addresses-are) (ap (λ at. drop at p) (sym s) ∙ datagram-is))))))

  laid_so : Plain p → LaidIn (family_for a.source)
  laid_so x =
      ⊎_elim {C = LaidIn (family_of p)}
      (λ h. rw (family4 p h.0) (laid-four h.0 h.1 h.2 h.3 h.4))
      (λ h. rw (family6 p h.0) (laid-six h.0 h.1 h.2 h.3))
      x
      ∙ ap (λ f. laid f a (word_at p header_field) (word_at p (start_of p + 6))) r.family

-- mending leaves a good UDP packet as it is, unless the header's field stands at FFFF
good-kept : (p : List ℕ) → Bytes p → judge_of p ≡ Good → udp p ≡ true → (four p ≡ true → word_at p header_field ≢ 65535) → (mend_of p).1 ≡ p
good-kept p b g u n =
    ext_get_or 0 (mend_of p).1 p (mend-length p)
    (λ i l. ⊎_elim (λ e. e) (λ x. absurd (⊎_elim (λ h. n h.0 h.2) (λ h. true≢false (sym u ∙ h.0)) x.0)) (good-stands p b (inl g) i))

-- a good packet of bytes that has what was asked for, is plain, and whose header field isn't FFFF is the one that is built
pub built-only : (a : Asked) (buffer : List ℕ) {n : ℕ} {q : List ℕ} → Builds a buffer n q
    → (p : List ℕ) → Bytes p → Reads a p → Plain p → judge_of p ≡ Good → (four p ≡ true → word_at p header_field ≢ 65535) → p ≡ take n q
unfolding mend_of packet_of
built-only a buffer e p b r l g o =
    let c = accepted p Good (omega arith) g in
    let k = whole-facts p c.0 in
    let m = word_at p (start_of p + 6) in
    let h = word_at p header_field in
    let f = family_for a.source in
    let s = laid_so b k r l in
    sym (good-kept p b g (is-udp b k r) o)
    ∙ ap (λ (x : Verdict × List ℕ). x.1) (call-done (whole_rules p) p (mended_message (mended_header p)) c.0)
    ∙ ap (λ x. mended_message (mended_header x)) s
    ∙ laid-mended f a h m (fits a (fit a buffer e)) (ap silent_of (sym s) ∙ (verdict-good p c.2).0)
    ∙ sym (is a buffer e)

-- the header field of the packet that is built isn't FFFF
its_own : (a : Asked) (buffer : List ℕ) {n : ℕ} {q : List ℕ} → Builds a buffer n q → four (take n q) ≡ true → word_at (take n q) header_field ≢ 65535
unfolding packet_of
its_own a buffer e = rw (is a buffer e) (field-some (family_for a.source) a (fits a (fit a buffer e)))

-- a string of bytes is the packet that is built just if it has what was asked for, is plain and good, and its header field isn't FFFF
pub built-just : (a : Asked) (buffer : List ℕ) {n : ℕ} {q : List ℕ} → Builds a buffer n q
    → (p : List ℕ) → Bytes p → (p ≡ take n q) ↔ (Reads a p × Plain p × (judge_of p ≡ Good) × (four p ≡ true → word_at p header_field ≢ 65535))
built-just a buffer e p b = (
  λ s. let r = built-read a buffer e in rw s (r.0, r.1, (built-good a buffer e).0, its_own a buffer e),
  λ x. built-only a buffer e p b x.0 x.1 x.2 x.3,
)
