-- A stamp above a peer's clock is new to it.
use Rattle.std.proofs.Common.{◌≡◌, ℕ, ◌+◌, ◌%◌, ◌<◌, ◌≤◌, max, Some}
use Rattle.std.specs.Prelude.{slice_get}
use native.Mathlib.Omega.{arith}
use Rattle.b1_model.specs.declared.records.Call.{Call}
use Rattle.b1_model.specs.Names.{calls_of}
use Rattle.b1_model.specs.Legal.{seen_stamp}
use Rattle.b1_model.specs.MachineParts.{PeerPart, State}
use Rattle.b1_model.specs.MachineSend.{final_stamp}
use Rattle.b1_model.specs.MachineStep.{record_of_state}
use Rattle.b1_step.proofs.Lists.{has_at}
use Rattle.b1_inv.specs.Words.{IsPeer}
use Rattle.b1_inv_record.specs.Clocks.{ListedBelowClock}
use Rattle.b1_ledger.specs.Growth.{IsNewStamp}

even_max : (a b : ℕ) → a % 2 ≡ 0 → b % 2 ≡ 0 → (max a b + 2) % 2 ≡ 0
even_max a b left right = omega (arith, left, right)

-- a final stamp is above the clock
pub above_clock : (x : PeerPart) (collected : ℕ) → x.clock < final_stamp x collected
above_clock x collected = omega arith

-- a final stamp is above what was collected
pub above_collected : (x : PeerPart) (collected : ℕ) → collected < final_stamp x collected
above_collected x collected = omega arith

module _ (s : State) (p : ℕ) (x : PeerPart) (listed : ListedBelowClock s) (is : IsPeer s p x) where
  -- what a peer sent or received is at most its clock
  pub listed_at : (k stamp : ℕ) (c : Call) → slice_get (calls_of (record_of_state s) p) k ≡ Some c → seen_stamp c.answer ≡ Some stamp → stamp ≤ x.clock
  listed_at k stamp c at seen = listed.below p x c stamp is (has_at (calls_of (record_of_state s) p) k c at) seen

  -- a final stamp is new to the peer's calls
  pub new_stamp : (collected : ℕ) → x.clock % 2 ≡ 0 → collected % 2 ≡ 0 → IsNewStamp (record_of_state s) p (final_stamp x collected)
  new_stamp collected clock even = record {
    even = even_max x.clock collected clock even;
    above = λ k stamp d at seen. let low = listed_at k stamp d at seen in let high = above_clock x collected in omega (arith, low, high);
  }
