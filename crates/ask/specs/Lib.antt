-- What a text of lines says, and what is answered to it.
pub mod Words
pub mod Numbers
pub mod Lines
pub mod Answers
pub mod Transcript
pub mod Laws
