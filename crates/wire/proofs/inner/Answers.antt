-- In each arm the protocol is the one that it names, and the table is computed.
use Rattle.std.specs.Prelude.{Some, Ok}
use mathlib.Core.Path.{◌≡◌, sym, ap}
use mathlib.Core.List.{List}
use Prim.Native.Nat.{ℕ}
use native.Mathlib.Omega.{arith}
use Rattle.verdicts.specs.Rules.{IsClear}
use Rattle.wire.specs.Outer.{family_of, outer_rules}
use Rattle.wire.specs.Table.{row_of}
use Rattle.wire.specs.Inner.{protocol_of, row_in, way_of, Carrying}
use Rattle.wire.specs.declared.Carried.{Carried}
use Rattle.wire.specs.declared.Plan.{Plan}
use Rattle.wire.specs.declared.Protocol.{Protocol}
use Rattle.wire.proofs.Lines.{Named, named, named-icmp, named-tcp, named-udp, named-icmp6, tcp-row, udp-row}
use Rattle.wire.proofs.Held.{Reaches, reaches}
use Rattle.wire.proofs.inner.Goals as goal

module _ (p : List ℕ) (c : Carried) (o : IsClear (outer_rules p)) (e : Ok c ≡ way_of p) where
  known : Reaches p c
  known = reaches p c e

  -- the protocol that c names
  name : (k : Protocol) → c.protocol ≡ k → Named (family_of p) (protocol_of p) k
  name k i = rw (sym i, ap (λ (x : Carried). x.protocol) known.is) (named (family_of p) (protocol_of p) known.covered)

  carrying : (n : ℕ) (plan : Plan) → protocol_of p ≡ n → row_in p ≡ Some plan → Carrying p c n plan
  carrying n plan i r =
      let k = known.is in
      record { outer = o; family = rw k; start = rw k; declared = rw k; protocol = i; row = r }

pub udp-requires : goal.udp-requires
udp-requires c =
    let n = named-udp (name _ _ c.requires.0 c.requires.1 _ c.in-Udp.is) in
    carrying _ _ c.requires.0 c.requires.1 17 _ n (rw n (udp-row _))

pub tcp-requires : goal.tcp-requires
tcp-requires c =
    let n = named-tcp (name _ _ c.requires.0 c.requires.1 _ c.in-Tcp.is) in
    carrying _ _ c.requires.0 c.requires.1 6 _ n (rw n (tcp-row _))

pub icmp-requires : goal.icmp-requires
unfolding row_of
icmp-requires c =
    let n = named-icmp (name _ _ c.requires.0 c.requires.1 _ c.in-Icmp.is) in
    record {
      carrying = carrying _ _ c.requires.0 c.requires.1 1 _ n.0 (rw (n.0, n.1));
      no_length = (λ e. omega arith, λ e. omega arith);
    }

pub icmp-requires-in-Icmp6 : goal.icmp-requires-in-Icmp6
unfolding row_of
icmp-requires-in-Icmp6 c =
    let n = named-icmp6 (name _ _ c.requires.0 c.requires.1 _ c.in-Icmp6.is) in
    record {
      carrying = carrying _ _ c.requires.0 c.requires.1 58 _ n.0 (rw (n.0, n.1));
      no_length = (λ e. omega arith, λ e. omega arith);
    }
