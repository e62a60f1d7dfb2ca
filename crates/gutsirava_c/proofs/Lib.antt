mod Asked
mod Forms
mod Listed
mod Reading
mod Refused
mod Told
