-- THE PROOF OF THE GUARANTEE for every list of calls, by the protocol without bytes (crate protocol). The statement is specs/Guarantee.antt.
--
-- A state of the cluster with the history of its calls is tied to a state of the protocol (Ties). Each call that is not declined is a short list of
-- the protocol's events, whatever its fate, and the tie holds again after it (calls/, a file for each). So the protocol's guarantee is the cluster's.
-- Beside the tie goes what a restore needs: at each moment so far every replica held something that may be restored now (Ties `Past`).
--
--   Guarantee   the theorem
--   Along       a call is declined or a list of events; so a list of calls is a list of events
--   Conclusions the protocol's guarantee, read through the tie
--   Fresh       the fresh cluster's tie
--   Ties        the tie, in records over the values that it ties: replicas, servers, register, sessions; Sim is all of it
--   Frames      a call that touches one replica, one server or one session leaves only that one's tie to show
--   Played      what each call's proof is given and has to show
--   calls/      the calls, one file each; Stop is the shortest
--
-- What the calls' proofs use:
--   Passing     a call that is not declined, and what each condition of the list says when it does not hold
--   Facts       what several calls read off the tie and the invariant
--   Counts      the counts of the two agree: decided, acknowledged
--   Blocks      media and lock tables in their slices
--   Media       a medium whose log stayed, became shorter or got a record; Operations: after each storage operation, under each fate; Restoring: after a
--               restore
--   Messages    a message to a replica that is not declined; Records: the server's record after it; Hearing: a server that hears or forgets;
--               Looking: a message that only reads
--   Standing    send and copy: whose records then stand there; Appending: what an open server acknowledges after one
--   Sessions    a session after an issue, and after what it acknowledges
--   Registers   the register that an open leaves; Opening: what an open finds; Opened: what it leaves
--   Remembering what no call changes in a history: the count and the moments before it
--
-- Beside the theorem: Readable, every list of calls that fit, with restores of bytes that stood, is one of its lists; Whole, what it comes to for two
-- sessions; Once, of sessions nothing is written over; Interval, a session issues K IDs at most; InFlight, what a server holds is what its session issued;
-- Readers, whoever is declined by 15 has something left to read or to wait for; Running, the states that the running calls leave are those of the list. The
-- crate guarantee_example works five lists out.
--
-- Over lists with recoveries (specs/Recoveries.antt):
--   Recoveries  the theorem: a list of items is a list of calls that are covered, so what is shown of lists of calls holds of lists of items
--   Items       what items leave: the state equation of a recovery; the calls that a list of items stands for; calls alone
--   Driven      the calls of a recovery fit, and none but the last opens a session
--   Between     what they add to the history
--   NoMore      of a recovery no more is asked than of its calls
--   ReadableItems, AfterItems  Readable, and Whole to Readers, of lists of items; Running has them too
-- Assumes nothing.
pub mod Ties
pub mod Sessions
pub mod Frames
pub mod Passing
pub mod Counts
pub mod Media
pub mod Operations
pub mod Messages
pub mod Records
pub mod Hearing
pub mod Looking
pub mod Standing
pub mod Appending
pub mod Registers
pub mod Facts
pub mod Fresh
pub mod Conclusions
pub mod Remembering
pub mod Restoring
pub mod Played
pub mod Opening
pub mod Opened
pub mod calls
pub mod Along
pub mod Guarantee
pub mod Running
pub mod Readable
pub mod Whole
pub mod Once
pub mod Interval
pub mod InFlight
pub mod Readers
pub mod Driven
pub mod Items
pub mod Between
pub mod Recoveries
pub mod NoMore
pub mod ReadableItems
pub mod AfterItems
