-- A cycle leaves store and record sound, to the byte.
pub mod RecordBack
pub mod StoreBack
pub mod StaysSound
pub mod AnyRun
pub mod ManyCycles
pub mod OneCycle
-- What a completed cycle keeps and lands, bit by bit of the bytes lent.
pub mod StoreBits
pub mod KeptBytes
