-- The meaning of a text, in the order of document 01, "Reading a text": read Line, Media, Connection, Bandwidth, Direction,
-- Section, Text; then Range, what every answer keeps to, Spots, where its lines stand, Default, a text with a session direction beside
-- the text that has it in its media sections, and Requests, what the rate lines of its media sections request.
pub mod Line
pub mod Fault
pub mod Media
pub mod Connection
pub mod Bandwidth
pub mod Direction
pub mod Section
pub mod Text
pub mod Range
pub mod Spots
pub mod Default
pub mod Requests
