-- All that ties a reached state to its record, and to the parts of its peers by themselves.
use Rattle.b1_model.specs.declared.naming.Opening.{Opening}
use Rattle.b1_model.specs.Legal.{Legal}
use Rattle.b1_model.specs.MachineParts.{State}
use Rattle.b1_model.specs.MachineStep.{record_of_state}
use Rattle.b1_inv_record.specs.Parts.{KeysAscend, SerialsMade, PoolRight, RecordsNeeded, ReleaseNoticesRight, MarksRight}
use Rattle.b1_inv_record.specs.Clocks.{CommittedBelowClock, ListedBelowClock, Synced, StampsAboveCollected, StagedKeysRight, OwedRight}
use Rattle.b1_inv_record.specs.Names.{MadeNumbers, TableIsLines, BegunNames, OldNodesDestroyed, ShutIsEmpty, EpochCounted}
use Rattle.b1_inv_record.specs.Entries.{PendingIsStaged, QueuedIsPresent, CommittedHasCall, EntryIsSomewhere, GoneBelowQueue, PendingAboveTaken, NoticesBelowStamp}
use Rattle.b1_inv_record.specs.Dooming.{FlushesDoomAll, FlushCommands, DoomsItsNodes}
use Rattle.b1_inv_record.specs.Numbers.{DestroysOwn}
use Rattle.b1_inv_record.specs.Destructions.{DoomKeysRight, DyingIsDoomed, OwnNoticeRight, ForeignNoticeRight, TakenHasReceipt}
use Rattle.b1_inv_record.specs.Holders.{HolderCovered, SeenTravels, SeenCollected, VoidRight, OwnSlotsPresent}

-- single parts of peers
pub record PartsRight (s : State) : Type 0 where
  pub keys : KeysAscend s
  pub serials : SerialsMade s
  pub pool : PoolRight s
  pub records : RecordsNeeded s
  pub releases : ReleaseNoticesRight s
  pub marks : MarksRight s

-- clocks of queues, of lists of calls and of open commands
pub record ClocksCover (s : State) : Type 0 where
  pub committed : CommittedBelowClock s
  pub listed : ListedBelowClock s
  pub synced : Synced s
  pub above : StampsAboveCollected s
  pub staged : StagedKeysRight s
  pub owed : OwedRight s

-- names and tables of the record against the parts of peers
pub record NamesRight (o : Opening) (s : State) : Type 0 where
  pub made : MadeNumbers o s
  pub lines : TableIsLines o s
  pub begun : BegunNames s
  pub old : OldNodesDestroyed o s
  pub shut : ShutIsEmpty s
  pub epochs : EpochCounted s

-- where each entry of the record is
pub record EntriesRight (o : Opening) (s : State) : Type 0 where
  pub pending : PendingIsStaged o s
  pub present : QueuedIsPresent o s
  pub called : CommittedHasCall o s
  pub somewhere : EntryIsSomewhere o s
  pub gone : GoneBelowQueue o s
  pub above : PendingAboveTaken o s
  pub noticed : NoticesBelowStamp s

-- destructions and their notices
pub record DestructionsRight (o : Opening) (s : State) : Type 0 where
  pub numbers : DestroysOwn s
  pub all : FlushesDoomAll s
  pub flushes : FlushCommands s
  pub doomed : DoomsItsNodes s
  pub keys : DoomKeysRight o s
  pub dying : DyingIsDoomed o s
  pub own : OwnNoticeRight o s
  pub foreign : ForeignNoticeRight o s
  pub taken : TakenHasReceipt o s

-- holders of nodes that end
pub record HoldersRight (o : Opening) (s : State) : Type 0 where
  pub covered : HolderCovered s
  pub travels : SeenTravels o s
  pub collected : SeenCollected o s
  pub void : VoidRight s
  pub present : OwnSlotsPresent o s

-- a reached state, as its record and its parts see it: the record is legal
pub record IsRight (o : Opening) (s : State) : Type 0 where
  pub parts : PartsRight s
  pub clocks : ClocksCover s
  pub names : NamesRight o s
  pub entries : EntriesRight o s
  pub destructions : DestructionsRight o s
  pub holders : HoldersRight o s
  pub legal : Legal o (record_of_state s)
